use Rattle.sim_path.{proofs.Common.rules, proofs.Remembering.none_right, specs.Atlases.ground_in}

pub invariant_of-result : Rattle.sim_path.proofs.remembered.Remembered.of.Goals.invariant_of-result
invariant_of-result c = record {
  full = c.in_ok-places.ensures.len;
  right = none_right (ground_in c.in_ok-over.over) c.new.result.items c.in_ok-places.places.items 2048
      (c.in_ok-places.ensures.items_if_clones_equal (λ y e. search rules));
}
