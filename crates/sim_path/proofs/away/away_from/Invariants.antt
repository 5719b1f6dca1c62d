use Rattle.sim_path.proofs.Common.{ℕ, AreBits, leads_away}

abbrev pub invariant-loop-which : Rattle.sim_path.proofs.away.away_from.Given.invariant-loop-which
invariant-loop-which l = AreBits (λ (j : ℕ). leads_away l.at l.goal j) l.which l.away
