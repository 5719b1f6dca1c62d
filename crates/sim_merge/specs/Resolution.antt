-- The resolved trees of templates, each with all that it inherits, or the first template that has none.
use Rattle.sim_merge.specs.{declared.fault.MergeFault.{MergeFault, TheVariants.{BadOp, ChainTooLong, Cycle, NoParent}}, Libraries.is_resolved, Overlay.absent}
use Rattle.{sim_merge.specs.Overlay.{laid, Laying, refused, there}, sim_tree.specs.{declared.{source.Source.Source, tree.Tree.Tree}, Nodes.{Origin, origin_of}}}
use Rattle.{sim_tree.specs.Trees.{no_children, Node, node, node_of}, std.specs.{List.{list_all, list_any, range_with_len}, Prelude.{Bool, Err, false}}}
use Rattle.std.specs.Prelude.{filter_map, if◌then◌else◌, is_none, is_some, length, List, map, nat_lt, None, not, Ok, Option, option_and_then, option_map}
use Rattle.std.specs.{Prelude.{position, Result, slice_get, slice_index_or, Some, suc, true, zero, ℕ, [], ◌&&◌, ◌<◌, ◌==◌, ◌||◌, ◌∷◌, ◌≡◌}, Str.bytes_eq}

-- ---- names

-- what each source is
abbrev pub origins_of : List Source → List Origin
origins_of sources = map origin_of sources

-- the name of a template
abbrev pub name_in : Origin → List ℕ
name_in origin = origin.name

-- the names, by their numbers
abbrev pub names_in : List Origin → List (List ℕ)
names_in origins = map name_in origins

-- no name stands twice
abbrev pub are_distinct : List (List ℕ) → Bool
are_distinct [] = true
are_distinct (name ∷ names) = not (list_any (bytes_eq name) names) && are_distinct names

-- ---- parents, as numbers of templates

-- the number of a template's parent, if it has a parent among these names
abbrev pub parent_among : List (List ℕ) → Origin → Option ℕ
parent_among names origin = option_and_then (λ name. position (bytes_eq name) names) origin.parent

-- each template's parent, as its number
abbrev pub parents_in : List Origin → List (Option ℕ)
parents_in origins = map (parent_among (names_in origins)) origins

-- a template has a parent, and none among these names
abbrev pub is_orphan : List (List ℕ) → Origin → Bool
is_orphan names origin = is_some origin.parent && is_none (parent_among names origin)

-- the first template whose parent is not there
abbrev pub orphan_refusal : List Origin → Option MergeFault
orphan_refusal origins = option_map NoParent (position (is_orphan (names_in origins)) origins)

-- ---- chains

-- a template, its parent, and so on, so many at most
abbrev pub chain_from : List (Option ℕ) → ℕ → Option ℕ → List ℕ
chain_from parents zero number = []
chain_from parents (suc more) None = []
chain_from parents (suc more) (Some number) = number ∷ chain_from parents more (slice_index_or parents number None)

-- how many members a chain has at most
abbrev pub most_members : ℕ
most_members = 16

-- the first 17 members
unfoldable pub members : List (Option ℕ) → ℕ → List ℕ
members parents number = chain_from parents (suc most_members) (Some number)

-- the numbers of all templates
abbrev pub numbers : List (Option ℕ) → List ℕ
numbers parents = range_with_len 0 (length parents)

-- a member stands twice
abbrev pub repeats : List ℕ → Bool
repeats [] = false
repeats (number ∷ chain) = list_any (λ other. other == number) chain || repeats chain

-- the members repeat, or are too many
abbrev pub is_endless : List ℕ → Bool
is_endless chain = repeats chain || nat_lt most_members (length chain)

-- why a chain is endless
abbrev pub chain_fault : ℕ → List ℕ → MergeFault
chain_fault number chain = if repeats chain then Cycle number else ChainTooLong number

-- the first template whose chain is endless
abbrev pub chain_refusal : List (Option ℕ) → Option MergeFault
chain_refusal parents =
    option_map (λ number. chain_fault number (members parents number)) (position (λ number. is_endless (members parents number)) (numbers parents))

-- ---- trees

-- a node with nothing to it
abbrev pub bare : Node
bare = node None None no_children

-- a template's own tree laid over that of its parent
abbrev pub inherited : Laying → Option Node → Laying
inherited (there lower) (Some own) = laid (Some lower) own
inherited (there lower) None = refused
inherited refused own = refused
inherited absent own = refused

-- the tree of a chain
abbrev pub chain_root : List Node → List ℕ → Laying
chain_root roots [] = there bare
chain_root roots (number ∷ chain) = inherited (chain_root roots chain) (slice_get roots number)

-- the root of a template's own tree
abbrev pub root_in : Origin → Node
root_in origin = origin.root

-- the roots, by their numbers
abbrev pub roots_in : List Origin → List Node
roots_in origins = map root_in origins

-- the tree of each template
abbrev pub layings : List (Option ℕ) → List Node → List Laying
layings parents roots = map (λ number. chain_root roots (members parents number)) (numbers parents)

-- a laying that has no tree
abbrev pub is_missing : Laying → Bool
is_missing refused = true
is_missing absent = true
is_missing (there n) = false

-- the tree of a laying, if it has one
abbrev pub root_there : Laying → Option Node
root_there refused = None
root_there absent = None
root_there (there n) = Some n

-- the first template with a refused operation in its tree, or in one that it inherits
abbrev pub root_refusal : List Laying → Option MergeFault
root_refusal trees = option_map BadOp (position is_missing trees)

-- ---- all together

-- a refusal, or else what comes behind it
abbrev pub unless : Option MergeFault → Result (List Node) MergeFault → Result (List Node) MergeFault
unless (Some fault) more = Err fault
unless None more = more

-- the trees, unless one has a refused operation
abbrev pub with_roots : List Laying → Result (List Node) MergeFault
with_roots trees = unless (root_refusal trees) (Ok (filter_map root_there trees))

-- the same, unless a chain is endless
abbrev pub with_chains : List (Option ℕ) → List Node → Result (List Node) MergeFault
with_chains parents roots = unless (chain_refusal parents) (with_roots (layings parents roots))

-- the resolved trees, or the first template without its parent, else the first with an endless chain, else the first with
-- a refused operation
abbrev pub resolution_of : List Origin → Result (List Node) MergeFault
resolution_of origins = unless (orphan_refusal origins) (with_chains (parents_in origins) (roots_in origins))

-- What is known of parents, chains and trees while templates are resolved.

-- each parent's number is that of a template
pub record AreWithin (parents : List (Option ℕ)) : Type 0 where
  pub within : (number parent : ℕ) → slice_index_or parents number None ≡ Some parent → parent < length parents

-- and each chain ends
pub record IsForest (parents : List (Option ℕ)) : Type 0 where
  pub within : AreWithin parents
  pub ended : (number : ℕ) → number < length parents → is_endless (members parents number) ≡ false

-- a chain passes, or the fault is that of the chain
abbrev pub ChainMeets : Result (Unit {0}) MergeFault → List ℕ → ℕ → Type 0
ChainMeets (Ok _) chain number = is_endless chain ≡ false
ChainMeets (Err fault) chain number = (is_endless chain ≡ true) × (fault ≡ chain_fault number chain)

-- a tree is kept for this template
pub record Has (kept : List (Option Tree)) (number : ℕ) : Type 0 where
  pub tree : Tree
  pub is : slice_index_or kept number None ≡ Some tree

-- each tree that is kept is the one of its template
pub record IsKept (parents : List (Option ℕ)) (roots : List Node) (kept : List (Option Tree)) : Type 0 where
  pub same : length kept ≡ length parents
  pub trees : (number : ℕ) (tree : Tree) → slice_index_or kept number None ≡ Some tree → chain_root roots (members parents number) ≡ there (node_of tree)

-- for each template that had a tree, one is kept still
pub record KeepsAll (old new : List (Option Tree)) : Type 0 where
  pub stays : (number : ℕ) → Has old number → Has new number

-- the trees are those of the templates, each of them resolved
pub record AreResolved (parents : List (Option ℕ)) (roots : List Node) (trees : List Tree) : Type 0 where
  pub count : length trees ≡ length parents
  pub is : map node_of trees ≡ filter_map root_there (layings parents roots)
  pub resolved : list_all is_resolved (map node_of trees) ≡ true
