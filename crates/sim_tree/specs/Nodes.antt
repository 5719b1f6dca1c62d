-- The tree that a value of JSON is. A text or a whole number is a node with that value; an object is a node, whose keys
-- are `_` for its value, those that begin with `@` for its mark, and else the names of its children.
use Rattle.serde_json.specs.Data.{array, boolean, Data, float, member, Members, negative, no_members, null, Num, number, object, string, unsigned}
use Rattle.{serde_json.specs.Find.{as_object, as_str, get, get_member}, sim_base.specs.Names.is_name, sim_json.specs.Commands.next_or}
use Rattle.sim_tree.specs.declared.{fault.TreeFault.{TheVariants.{NotWhole, OutOfMemory, TooDeep, WrongKind}, TreeFault}, source.Source.Source}
use Rattle.sim_tree.specs.declared.tree.{Child.Child, Tree.Tree, TreeMark.{TheVariants.{Add, Disable, Merge, Mul, Replace, Tokens}, TreeMark}}
use Rattle.sim_tree.specs.{Trees.{bears, Children, children_of, no_children, Node, node, node_of, nodes_of}, Walks.{has_float, height}}
use Rattle.std.specs.{declared.alloc.Global.Global, Fmt.{decimal, signed_decimal}, List.starts_with}
use Rattle.std.specs.Prelude.{Bool, codes, Err, false, if◌then◌else◌, is_some, List, nat_eq, nat_le, nat_lt, None, not, Ok, Option, option_and_then, option_map}
use Rattle.std.specs.{Prelude.{Result, Some, true, Vec, ℕ, [], ◌&&◌, ◌+◌, ◌==◌, ◌||◌, ◌∷◌, ◌≡◌}, Str.bytes_eq}

-- What stands at a node itself, read from JSON: its value and its mark.

-- a whole number in decimal
abbrev pub number_text : Num → Option (List ℕ)
number_text (unsigned n) = Some (decimal n)
number_text (negative z) = Some (signed_decimal z)
number_text (float x) = None

-- a text, or a whole number in decimal
abbrev pub leaf_text : Data → Option (List ℕ)
leaf_text null = None
leaf_text (boolean b) = None
leaf_text (number x) = number_text x
leaf_text (string s) = Some s
leaf_text (array ds) = None
leaf_text (object ms) = None

-- the key of a node's own value
abbrev pub is_own_key : List ℕ → Bool
is_own_key key = bytes_eq key (codes "_")

-- a key that begins with `@`
abbrev pub is_mark_key : List ℕ → Bool
is_mark_key key = starts_with nat_eq key (codes "@")

-- the marks with the number 1
abbrev pub whole_mark : List ℕ → ℕ → Option TreeMark
whole_mark key n =
    if not (n == 1) then None
    else if bytes_eq key (codes "@disable") then Some Disable
    else if bytes_eq key (codes "@replace") then Some Replace
    else if bytes_eq key (codes "@merge") then Some Merge
    else if bytes_eq key (codes "@tokens") then Some Tokens
    else None

abbrev pub number_mark : List ℕ → Num → Option TreeMark
number_mark key (unsigned n) = whole_mark key n
number_mark key (negative z) = None
number_mark key (float x) = None

-- the marks with a text, which are the operations
abbrev pub text_mark : List ℕ → List ℕ → Option TreeMark
text_mark key text =
    if not (bytes_eq key (codes "@op")) then None
    else if bytes_eq text (codes "add") then Some Add
    else if bytes_eq text (codes "mul") then Some Mul
    else None

-- the mark of a key and its value
abbrev pub mark_from : List ℕ → Data → Option TreeMark
mark_from key null = None
mark_from key (boolean b) = None
mark_from key (number x) = number_mark key x
mark_from key (string s) = text_mark key s
mark_from key (array ds) = None
mark_from key (object ms) = None

-- the value of an object's node
abbrev pub own_in : Option Data → Option (List ℕ)
own_in None = None
own_in (Some d) = leaf_text d

abbrev pub own_of : Members → Option (List ℕ)
own_of ms = own_in (get_member (codes "_") ms)

-- a member that is no child: the value or a mark
abbrev pub is_plain_member : List ℕ → Data → Bool
is_plain_member key d = if is_own_key key then is_some (leaf_text d) else is_some (mark_from key d)

-- how many marks an object has
abbrev pub marks_in : Members → ℕ
marks_in no_members = 0
marks_in (member k d ms) = if is_mark_key k then marks_in ms + 1 else marks_in ms

-- the first mark
abbrev pub mark_in : Members → Option TreeMark
mark_in no_members = None
mark_in (member k d ms) = if is_mark_key k then mark_from k d else mark_in ms

-- the key of a child
abbrev pub is_child_key : List ℕ → Bool
is_child_key key = not (is_own_key key) && not (is_mark_key key)

abbrev mutual
  -- the node that a value is, if it is one
  pub node_in : Data → Node
  node_in null = node None None no_children
  node_in (boolean b) = node None None no_children
  node_in (number x) = node (number_text x) None no_children
  node_in (string s) = node (Some s) None no_children
  node_in (array ds) = node None None no_children
  node_in (object ms) = node (own_of ms) (mark_in ms) (children_of (named_in ms))

  -- the children of an object by name, in the order of its keys
  pub named_in : Members → List (List ℕ × Node)
  named_in no_members = []
  named_in (member k d ms) = if is_child_key k then (k, node_in d) ∷ named_in ms else named_in ms

-- those children
abbrev pub children_in : Members → Children
children_in ms = children_of (named_in ms)

-- at most one mark, and what it asks for
abbrev pub is_whole_node : Members → Bool
is_whole_node ms = nat_le (marks_in ms) 1 && bears (mark_in ms) (own_of ms) (children_in ms)

-- an object's members up to its first child are the value or marks, and that child has a good name
abbrev pub begin_well : Members → Bool
begin_well no_members = true
begin_well (member k d ms) = if is_child_key k then is_name k else is_plain_member k d && begin_well ms

-- a value is a text, a whole number or an object that begins well: as much of a node as is seen without memory
abbrev pub has_kind : Data → Bool
has_kind null = false
has_kind (boolean b) = false
has_kind (number x) = is_some (number_text x)
has_kind (string s) = true
has_kind (array ds) = false
has_kind (object ms) = begin_well ms

abbrev mutual
  -- a value is a node
  pub is_node : Data → Bool
  is_node null = false
  is_node (boolean b) = false
  is_node (number x) = is_some (number_text x)
  is_node (string s) = true
  is_node (array ds) = false
  is_node (object ms) = are_members ms && is_whole_node ms

  -- each member of an object is a child with a good name, the value or a mark
  pub are_members : Members → Bool
  are_members no_members = true
  are_members (member k d ms) = (if is_child_key k then is_name k && is_node d else is_plain_member k d) && are_members ms

-- The sources of templates. The root of one has its name and perhaps its parent's name, and else children alone.

-- what a source says: a name, perhaps a parent's name, and a tree
pub record Origin : Type 0 where
  pub name : List ℕ
  pub parent : Option (List ℕ)
  pub root : Node

abbrev pub origin_of : Source → Origin
origin_of source = record { name = source.name; parent = source.parent; root = node_of source.tree }

-- ---- from JSON

-- the two keys of a root that name templates
abbrev pub is_root_key : List ℕ → Bool
is_root_key key = bytes_eq key (codes "@name") || bytes_eq key (codes "@parent")

-- each other member of a root is a child with a good name
abbrev pub are_root_members : Members → Bool
are_root_members no_members = true
are_root_members (member k d ms) = (is_root_key k || (is_child_key k && (is_name k && is_node d))) && are_root_members ms

-- the members of a root up to its first child are its names, and that child has a good name
abbrev pub begin_root : Members → Bool
begin_root no_members = true
begin_root (member k d ms) = if is_root_key k then begin_root ms else is_child_key k && is_name k

-- a text, where it is a name
abbrev pub if_name : List ℕ → Option (List ℕ)
if_name text = if is_name text then Some text else None

-- the name that a value is
abbrev pub name_in : Data → Option (List ℕ)
name_in d = option_and_then if_name (as_str d)

-- a parent's name, where one is there; it has to be a name
abbrev pub parent_in : Option Data → Option (Option (List ℕ))
parent_in None = Some None
parent_in (Some d) = option_map Some (name_in d)

-- the source of these names and members
abbrev pub root_in : List ℕ → Option (List ℕ) → Members → Option Origin
root_in name parent ms =
    if are_root_members ms then Some (record { name = name; parent = parent; root = node None None (children_in ms) }) else None

-- the source that a value is
abbrev pub origin_in : Data → Option Origin
origin_in d =
    next_or (option_and_then name_in (get (codes "@name") d)) None (λ name. next_or (parent_in (get (codes "@parent") d)) None (λ parent.
    next_or (as_object d) None (root_in name parent)))

-- What reading a tree or a source answers: the first refusal that applies, or else the tree.

-- what is read, where a test holds
abbrev pub of_kind : {X : Type 0} → Bool → X → Result X TreeFault
of_kind fits x = if fits then Ok x else Err WrongKind

-- what is read, if anything is
abbrev pub kind_of : {X : Type 0} → Option X → Result X TreeFault
kind_of None = Err WrongKind
kind_of (Some x) = Ok x

-- a value may have 32 levels, and its numbers are whole
abbrev pub bounded : {X : Type 0} → Data → Result X TreeFault → Result X TreeFault
bounded d read = if nat_lt 32 (height d) then Err TooDeep else if has_float d then Err NotWhole else read

-- what is refused of a value before any memory is taken, where this is said of its kind
abbrev pub early_fault : Bool → Data → Option TreeFault
early_fault fits d = if nat_lt 32 (height d) then Some TooDeep else if has_float d then Some NotWhole else if fits then None else Some WrongKind

-- the same for a tree
abbrev pub early_tree_fault : Data → Option TreeFault
early_tree_fault d = early_fault (has_kind d) d

-- the same for a source, which has to have a name
abbrev pub early_source_fault : Data → Option TreeFault
early_source_fault d = early_fault (is_some (option_and_then name_in (get (codes "@name") d))) d

-- the tree that a value is
abbrev pub tree_in : Data → Result Node TreeFault
tree_in d = bounded d (of_kind (is_node d) (node_in d))

-- the source that a value is
unfoldable pub source_in : Data → Result Origin TreeFault
source_in d = bounded d (kind_of (origin_in d))

-- a tree is the wanted one, or memory ran out
abbrev pub TreeMeets : Result Tree TreeFault → Result Node TreeFault → Type 0
TreeMeets (Ok tree) wanted = wanted ≡ Ok (node_of tree)
TreeMeets (Err OutOfMemory) wanted = Unit {0}
TreeMeets (Err fault) wanted = wanted ≡ Err fault

-- the same for the children of a node
abbrev pub ChildrenMeet : Result (Vec Child Global) TreeFault → Result Children TreeFault → Type 0
ChildrenMeet (Ok cs) wanted = wanted ≡ Ok (nodes_of cs.items)
ChildrenMeet (Err OutOfMemory) wanted = Unit {0}
ChildrenMeet (Err fault) wanted = wanted ≡ Err fault

-- the same for a source
abbrev pub SourceMeets : Result Source TreeFault → Result Origin TreeFault → Type 0
SourceMeets (Ok source) wanted = wanted ≡ Ok (origin_of source)
SourceMeets (Err OutOfMemory) wanted = Unit {0}
SourceMeets (Err fault) wanted = wanted ≡ Err fault
