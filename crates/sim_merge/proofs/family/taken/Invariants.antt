use Rattle.sim_merge.proofs.Common.{◌≡◌, filter_map}

abbrev pub invariant-loop-slot : Rattle.sim_merge.proofs.family.taken.Given.invariant-loop-slot
invariant-loop-slot l = l.trees.items ≡ filter_map (λ slot. slot) l.yielded
