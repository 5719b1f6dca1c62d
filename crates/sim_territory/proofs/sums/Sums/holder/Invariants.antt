use Rattle.sim_territory.proofs.{Common.sum_at, Holding.IsBestBefore}

abbrev pub invariant-loop-player : Rattle.sim_territory.proofs.sums.Sums.holder.Given.invariant-loop-player
invariant-loop-player l = IsBestBefore (λ player. sum_at l.self player l.cell) l.player l.holder l.most
