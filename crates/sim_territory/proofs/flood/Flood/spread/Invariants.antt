use Rattle.sim_territory.proofs.Common.{ground_of, Spreads}

abbrev pub invariant-loop-which : Rattle.sim_territory.proofs.flood.Flood.spread.Given.invariant-loop-which
invariant-loop-which l = Spreads (ground_of l.initial.self l.holders) l.initial.self l.self l.from l.which
