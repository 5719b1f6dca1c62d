use Rattle.sim_search.{proofs.Common.known, proofs.Common.map, proofs.Common.take, proofs.Common.◌≡◌, specs.Rows.alike}

abbrev pub invariant-loop-place : Rattle.sim_search.proofs.landmarks.Landmarks.new.Given.invariant-loop-place
invariant-loop-place l = l.items.items ≡ map alike (take l.place (known l.costs))
