use Rattle.sim_search.{proofs.Common.known, proofs.Common.map, proofs.Common.take, proofs.Common.◌≡◌, specs.Rows.number_of}

abbrev pub invariant-loop-place : Rattle.sim_search.proofs.distances.Distances.of.Given.invariant-loop-place
invariant-loop-place l = l.items.items ≡ map number_of (take l.place (known l.costs))
