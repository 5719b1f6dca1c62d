use Rattle.{sim_setup.proofs.Common.{length, map, mask_of, records, view, [], ◌+◌, ◌∷◌, ◌≡◌}, std.proofs.Common.vec_len}

abbrev pub invariant-loop-rest : Rattle.sim_setup.proofs.players.masks_from.Given.invariant-loop-rest
invariant-loop-rest l = record {
  same : records (mask_of (length l.items)) l.found.items (map view l.rest) ≡ records (mask_of (length l.items)) (0 ∷ []) (map view l.items);
  count : vec_len l.found + length l.rest ≡ length l.items + 1;
}

abbrev pub decreases-loop-rest : Rattle.sim_setup.proofs.players.masks_from.Given.decreases-loop-rest
decreases-loop-rest l = length l.rest
