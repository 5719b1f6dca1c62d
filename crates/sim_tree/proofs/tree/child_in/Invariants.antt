use Rattle.sim_tree.proofs.Common.{◌≡◌, drop, child_named, nodes_of}

abbrev pub invariant-loop-child : Rattle.sim_tree.proofs.tree.child_in.Given.invariant-loop-child
invariant-loop-child l = child_named l.name (nodes_of (drop l.child-index l.children)) ≡ child_named l.name (nodes_of l.children)
