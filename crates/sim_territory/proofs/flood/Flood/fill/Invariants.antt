use Rattle.sim_territory.proofs.{Common.ground_of, Common.work_left, Flooding.Filling}

abbrev pub invariant-loop-from : Rattle.sim_territory.proofs.flood.Flood.fill.Given.invariant-loop-from
invariant-loop-from l = Filling (ground_of l.initial.self l.holders) l.initial.self l.self

abbrev pub decreases-loop-from : Rattle.sim_territory.proofs.flood.Flood.fill.Given.decreases-loop-from
decreases-loop-from l = work_left l.self
