use Rattle.{sim_traits.specs.Values.are_known, sim_tree.specs.Trees.nodes_of, std.proofs.Common.length, std.proofs.Common.◌≡◌}

abbrev pub invariant-loop-rest : Rattle.sim_traits.proofs.table.are_known.Given.invariant-loop-rest
invariant-loop-rest l = are_known (nodes_of l.rest) ≡ are_known (nodes_of l.children)

abbrev pub decreases-loop-rest : Rattle.sim_traits.proofs.table.are_known.Given.decreases-loop-rest
decreases-loop-rest l = length l.rest
