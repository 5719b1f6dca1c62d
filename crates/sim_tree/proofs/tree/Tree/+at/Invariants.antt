use Rattle.sim_tree.proofs.Common.{length}

abbrev pub decreases-at : Rattle.sim_tree.proofs.tree.Tree.+at.Given.decreases-at
decreases-at l = length l.path.now
