-- Trees by themselves: a node has perhaps a value, at most one mark, and children by name.
use Rattle.sim_tree.specs.declared.tree.{Child.{Child, TheFolds.{fold-Child, fold-Tree}, TheOpen.{Child-F, Tree-F}}, Tree.Tree}
use Rattle.sim_tree.specs.declared.tree.TreeMark.{TheVariants.{Add, Disable, Merge, Mul, Replace, Tokens}, TreeMark}
use Rattle.std.specs.{Cmp.Lexicographic.slice_cmp, Ordering.{is_lt, nat_cmp}}
use Rattle.std.specs.{Prelude.{Bool, false, if◌then◌else◌, is_none, is_some, List, map, max, None, Option, Some, suc, true, ℕ, [], ◌&&◌, ◌∷◌}, Str.bytes_eq}

mutual
  pub data Node : Type 0 where
    node : Option (List ℕ) → Option TreeMark → Children → Node

  pub data Children : Type 0 where
    no_children : Children
    child : List ℕ → Node → Children → Children

-- ---- the tree that the code has

-- a list of named nodes, as children
abbrev pub children_of : List (List ℕ × Node) → Children
children_of [] = no_children
children_of (c ∷ cs) = child c.0 c.1 (children_of cs)

-- the node of a tree whose children are nodes already
abbrev pub node_step : Tree-F (List ℕ × Node) Node → Node
node_step t = node t.value t.mark (children_of t.children.items)

-- a child beside its name
abbrev pub child_step : Child-F (List ℕ × Node) Node → List ℕ × Node
child_step c = (c.name, c.tree)

-- the node that a tree is
abbrev pub node_of : Tree → Node
node_of = fold-Tree (List ℕ × Node) Node child_step node_step

-- a name and the node under it
abbrev pub named_of : Child → List ℕ × Node
named_of = fold-Child (List ℕ × Node) Node child_step node_step

-- the children that a list of them is
abbrev pub nodes_of : List Child → Children
nodes_of cs = children_of (map named_of cs)

-- ---- what is at a path, which is a list of names

-- what stands at a node itself
pub record Entry : Type 0 where
  pub value : Option (List ℕ)
  pub mark : Option TreeMark

-- the value of a node
abbrev pub value_of : Node → Option (List ℕ)
value_of (node value mark cs) = value

-- the mark of a node
abbrev pub mark_of : Node → Option TreeMark
mark_of (node value mark cs) = mark

-- the children of a node
abbrev pub under : Node → Children
under (node value mark cs) = cs

-- the child of a name, if there is one
abbrev pub child_named : List ℕ → Children → Option Node
child_named name no_children = None
child_named name (child other n cs) = if bytes_eq other name then Some n else child_named name cs

abbrev mutual
  -- what stands at a path from a node on, if the path is there
  pub at : Node → List (List ℕ) → Option Entry
  at (node value mark cs) [] = Some (record { value = value; mark = mark })
  at (node value mark cs) (name ∷ path) = at_child cs name path

  pub at_child : Children → List ℕ → List (List ℕ) → Option Entry
  at_child no_children name path = None
  at_child (child other n cs) name path = if bytes_eq other name then at n path else at_child cs name path

-- ---- trees as they are handed about

-- one name stands before another: the order of their bytes
abbrev pub is_before : List ℕ → List ℕ → Bool
is_before x y = is_lt (slice_cmp nat_cmp x y)

-- a name stands before all of these
abbrev pub is_least : List ℕ → Children → Bool
is_least name no_children = true
is_least name (child other n cs) = is_before name other && is_least name cs

-- a node with an operation or a list of words has a value and no children
abbrev pub bears : Option TreeMark → Option (List ℕ) → Children → Bool
bears (Some Add) value no_children = is_some value
bears (Some Add) value (child name n cs) = false
bears (Some Mul) value no_children = is_some value
bears (Some Mul) value (child name n cs) = false
bears (Some Tokens) value no_children = is_some value
bears (Some Tokens) value (child name n cs) = false
bears (Some Disable) value cs = true
bears (Some Replace) value cs = true
bears (Some Merge) value cs = true
bears None value cs = true

abbrev mutual
  -- the children of each node ascend by name, and each node bears its mark
  pub is_sound : Node → Bool
  is_sound (node value mark cs) = bears mark value cs && are_sound cs

  pub are_sound : Children → Bool
  are_sound no_children = true
  are_sound (child name n cs) = is_least name cs && (is_sound n && are_sound cs)

abbrev mutual
  -- no node has a mark
  pub is_plain : Node → Bool
  is_plain (node value mark cs) = is_none mark && are_plain cs

  pub are_plain : Children → Bool
  are_plain no_children = true
  are_plain (child name n cs) = is_plain n && are_plain cs

abbrev mutual
  -- how many levels of nodes there are, the root being one
  pub levels : Node → ℕ
  levels (node value mark cs) = suc (levels_under cs)

  pub levels_under : Children → ℕ
  levels_under no_children = 0
  levels_under (child name n cs) = max (levels n) (levels_under cs)
