use Rattle.sim_merge.proofs.Common.{◌≡◌, true, drop, are_sound, laid_under, nodes_of, with_lower}

abbrev pub invariant-merged-loop-child : Rattle.sim_merge.proofs.laying.+laying.Given.invariant-merged-loop-child
invariant-merged-loop-child l = record {
  merged : with_lower (nodes_of l.children.items) (laid_under (nodes_of l.rest) (nodes_of (drop l.child-index l.upper))) ≡ laid_under (nodes_of l.fn.lower)
      (nodes_of l.upper);
  sound : are_sound (nodes_of l.rest) ≡ true;
}
