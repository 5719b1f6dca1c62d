use Rattle.sim_setup.proofs.Common.{◌≡◌, map, length, mask_from, view}

abbrev pub invariant-loop-rest : Rattle.sim_setup.proofs.players.mask_from.Given.invariant-loop-rest
invariant-loop-rest l = mask_from l.players l.player l.mask (map view l.rest) ≡ mask_from l.players l.player 0 (map view l.items)

abbrev pub decreases-loop-rest : Rattle.sim_setup.proofs.players.mask_from.Given.decreases-loop-rest
decreases-loop-rest l = length l.rest
