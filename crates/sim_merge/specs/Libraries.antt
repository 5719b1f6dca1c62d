-- What a library holds: templates by name, each with its resolved tree.
use Rattle.{sim_merge.specs.NodeCodes.node_code, sim_tree.specs.Trees.{is_plain, is_sound, levels, mark_of, Node}, std.specs.Coded.code_by}
use Rattle.std.specs.{Coded.{Coded, coded_list, coded_ℕ, coded×}, List.list_all, Prelude.{Bool, is_none, IsTrue, length, List, nat_le, refl, ℕ, ◌&&◌, ◌≡◌, ◌≤◌}}

-- the names of templates, and beside each name the root of its tree
pub record Holding : Type 0 where
  pub names : List (List ℕ)
  pub roots : List Node

-- a holding is told from others by its fields
abbrev pub holding_code : Coded Holding
holding_code =
    code_by (List (List ℕ) × List Node) (coded× (coded_list (coded_list coded_ℕ)) (coded_list node_code))
    (λ h. (h.names, h.roots)) (λ p. record { names = p.0; roots = p.1 }) (λ _. refl)

-- how many levels a tree has at most
abbrev pub most_levels : ℕ
most_levels = 32

-- a tree as it stands in a library: sound, without marks, and of at most 32 levels
abbrev pub is_resolved : Node → Bool
is_resolved n = is_sound n && (is_plain n && nat_le (levels n) most_levels)

-- a tree that may be laid over another one: sound, without a mark at its root, and of at most 32 levels
abbrev pub is_layable : Node → Bool
is_layable n = is_sound n && (is_none (mark_of n) && nat_le (levels n) most_levels)

-- a tree for each name, at most 256, each one resolved
pub record IsLibrary (names : List (List ℕ)) (roots : List Node) : Type 0 where
  pub paired : length roots ≡ length names
  pub few : length names ≤ 256
  pub resolved : IsTrue (list_all is_resolved roots)
