use Rattle.sim_merge.proofs.Common.{◌≡◌, length, are_distinct, names_in, origins_of}

abbrev pub invariant-loop-rest : Rattle.sim_merge.proofs.chains.names_differ.Given.invariant-loop-rest
invariant-loop-rest l = are_distinct (names_in (origins_of l.rest)) ≡ are_distinct (names_in (origins_of l.sources))

abbrev pub decreases-loop-rest : Rattle.sim_merge.proofs.chains.names_differ.Given.decreases-loop-rest
decreases-loop-rest l = length l.rest
