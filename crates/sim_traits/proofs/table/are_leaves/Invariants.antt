use Rattle.{sim_json.specs.Keys.texts_of, sim_traits.specs.Values.are_leaves, sim_tree.specs.Trees.nodes_of, std.proofs.Common.length, std.proofs.Common.◌≡◌}

abbrev pub invariant-loop-rest : Rattle.sim_traits.proofs.table.are_leaves.Given.invariant-loop-rest
invariant-loop-rest l = are_leaves (texts_of l.names) (nodes_of l.rest) ≡ are_leaves (texts_of l.names) (nodes_of l.children)

abbrev pub decreases-loop-rest : Rattle.sim_traits.proofs.table.are_leaves.Given.decreases-loop-rest
decreases-loop-rest l = length l.rest
