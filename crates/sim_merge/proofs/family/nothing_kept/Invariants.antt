use Rattle.sim_merge.proofs.Common.{◌≡◌, replicate, None}

abbrev pub invariant-loop-made : Rattle.sim_merge.proofs.family.nothing_kept.Given.invariant-loop-made
invariant-loop-made l = l.kept.items ≡ replicate l.made None
