use Rattle.sim_merge.proofs.Common.{◌≡◌, drop, followed_by, nodes_of}

abbrev pub invariant-loop-child : Rattle.sim_merge.proofs.merge.push_copies.Given.invariant-loop-child
invariant-loop-child l = followed_by (nodes_of l.out.items) (nodes_of (drop l.child-index l.children)) ≡ followed_by (nodes_of l.initial.out.items)
    (nodes_of l.children)
