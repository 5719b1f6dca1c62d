use Rattle.sim_tree.proofs.Common.{◌≡◌, ◌++◌, map, drop, named_of}

abbrev pub invariant-copy_children-loop-child : Rattle.sim_tree.proofs.tree.+copy.Given.invariant-copy_children-loop-child
invariant-copy_children-loop-child l = map named_of l.copied.items ++ map named_of (drop l.child-index l.child-items) ≡ map named_of l.child-items
