use Rattle.sim_setup.proofs.Common.{◌≡◌, [], map, length, first_of, numbered, view}

abbrev pub invariant-loop-rest : Rattle.sim_setup.proofs.entities.firsts_from.Given.invariant-loop-rest
invariant-loop-rest l = numbered (λ done. first_of l.library.names l.land l.players) l.found.items (map view l.rest) ≡ numbered
    (λ done. first_of l.library.names l.land l.players) [] (map view l.items)

abbrev pub decreases-loop-rest : Rattle.sim_setup.proofs.entities.firsts_from.Given.decreases-loop-rest
decreases-loop-rest l = length l.rest
