use Rattle.sim_setup.proofs.Common.{◌≡◌, [], map, length, records, rect_of, view}

abbrev pub invariant-loop-rest : Rattle.sim_setup.proofs.ground.rects_from.Given.invariant-loop-rest
invariant-loop-rest l = records (λ done. rect_of l.size) l.found.items (map view l.rest) ≡ records (λ done. rect_of l.size) [] (map view l.items)

abbrev pub decreases-loop-rest : Rattle.sim_setup.proofs.ground.rects_from.Given.decreases-loop-rest
decreases-loop-rest l = length l.rest
