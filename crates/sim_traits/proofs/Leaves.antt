-- Children that are there.
use Rattle.std.proofs.Common.{[], arith, false, length, refl, ◌∷◌, ◌≡◌, ◌≤◌}
use Rattle.{sim_traits.specs.Values.are_none, sim_tree.specs.Trees.nodes_of, sim_tree.specs.declared.tree.Child.Child, std.proofs.Common.List}

pub are_none_some : (cs : List Child) → 1 ≤ length cs → are_none (nodes_of cs) ≡ false
are_none_some [] h = absurd (omega arith)
are_none_some (c ∷ cs) h = refl
