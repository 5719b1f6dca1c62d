-- What a tree laid over another one has at each path, with one line for each mark. A tree is here a map from paths,
-- which are lists of names, to what stands there.
use Rattle.sim_merge.specs.declared.fault.MergeFault.TheVariants as merge
use Rattle.sim_merge.specs.declared.fault.OverlayFault.TheVariants as overlay
use Rattle.sim_base.specs.{NumberText.{in_range, number_of, text_of}, Places.product}
use Rattle.sim_merge.specs.declared.{fault.{MergeFault.MergeFault, OverlayFault.OverlayFault}, operation.Operation.{Operation, TheVariants.{Product, Sum}}}
use Rattle.sim_merge.specs.Libraries.{is_layable, is_resolved}
use Rattle.sim_tree.specs.{declared.tree.{Tree.Tree, TreeMark.{TheVariants.{Add, Disable, Merge, Mul, Replace, Tokens}, TreeMark}}, Tokens.tokens_in}
use Rattle.sim_tree.specs.Trees.{are_sound, at, child, child_named, Children, Entry, is_before, is_sound, no_children, Node, node, node_of, under, value_of}
use Rattle.std.specs.{Borrow.Bor, List.{join_with_byte, list_any, starts_with}, Prelude.Bool}
use Rattle.std.specs.Prelude.{codes, drop, Err, false, filter, fold, if◌then◌else◌, is_none, is_some, IsTrue, length, List, map, nat_eq, nat_lt, None, not, Ok}
use Rattle.std.specs.{Prelude.{Option, option_and_then, option_map, Result, reverse, Some, true, ℕ, ℤ, [], ◌&&◌, ◌++◌, ◌+ℤ◌, ◌||◌, ◌∷◌, ◌≡◌}, Str.bytes_eq}

-- What becomes of a value where a node is laid over another one.

abbrev pub Value : Type 0
Value = Option (List ℕ)

-- the upper value, or the lower one where there is no upper one
abbrev pub value_over : Value → Value → Value
value_over (Some upper) lower = Some upper
value_over None lower = lower

-- ---- operations

-- the printed number, where it is in range
abbrev pub printed : ℤ → Value
printed z = option_map text_of (in_range z)

-- the printed result for two texts, where both are numbers and it is in range
unfoldable pub text_by : (ℤ → ℤ → ℤ) → List ℕ → List ℕ → Value
text_by operation lower upper =
    option_and_then (λ x. option_and_then (λ y. printed (operation x y)) (number_of upper)) (number_of lower)

-- the same for two values, where both are there
abbrev pub value_by : (ℤ → ℤ → ℤ) → Value → Value → Value
value_by operation (Some lower) (Some upper) = text_by operation lower upper
value_by operation (Some lower) None = None
value_by operation None upper = None

abbrev pub sum_of : Value → Value → Value
sum_of lower upper = value_by (λ x y. x +ℤ y) lower upper

abbrev pub product_of : Value → Value → Value
product_of lower upper = value_by product lower upper

-- ---- lists of words

-- a minus sign, and the word that it takes away
abbrev pub is_removal : List ℕ → Bool
is_removal word = starts_with nat_eq word (codes "-") && nat_lt 1 (length word)

-- a list without a word, however often it stands there
abbrev pub without : List ℕ → List (List ℕ) → List (List ℕ)
without word found = filter (λ other. not (bytes_eq other word)) found

-- a list with a word at its end, unless the word is there
abbrev pub including : List ℕ → List (List ℕ) → List (List ℕ)
including word found = if list_any (bytes_eq word) found then found else found ++ word ∷ []

-- a list, after a word of the upper list
abbrev pub with_word : List (List ℕ) → List ℕ → List (List ℕ)
with_word found word = if is_removal word then without (drop 1 word) found else including word found

-- the lower list, after each word of the upper list, with single spaces
unfoldable pub words_over : Value → Value → List ℕ
words_over upper lower = join_with_byte 0x20 (fold with_word (tokens_in lower) (tokens_in upper))

-- What a node laid over another one comes to, as a recursion over the upper node. The children of both ascend by name.

-- an operation is refused, or nothing is there, or a node
pub data Laying : Type 0 where
  refused absent : Laying
  there : Node → Laying

-- the value of the lower node, if there is a node
abbrev pub lower_value : Option Node → Value
lower_value None = None
lower_value (Some lower) = value_of lower

-- its children
abbrev pub lower_children : Option Node → Children
lower_children None = no_children
lower_children (Some lower) = under lower

-- the children that stand before a name
abbrev pub before : List ℕ → Children → Children
before name no_children = no_children
before name (child other n cs) = if is_before other name then child other n (before name cs) else before name cs

-- the children that stand behind it
abbrev pub behind : List ℕ → Children → Children
behind name no_children = no_children
behind name (child other n cs) = if is_before name other then child other n (behind name cs) else behind name cs

-- children, and then others
abbrev pub followed_by : Children → Children → Children
followed_by no_children more = more
followed_by (child name n cs) more = child name n (followed_by cs more)

-- a child, if one is there, and then the others
abbrev pub with_laid : List ℕ → Laying → Option Children → Option Children
with_laid name refused more = None
with_laid name absent more = more
with_laid name (there n) None = None
with_laid name (there n) (Some cs) = Some (child name n cs)

-- children, and then others, if these are not refused
abbrev pub with_lower : Children → Option Children → Option Children
with_lower cs None = None
with_lower cs (Some more) = Some (followed_by cs more)

-- a node over these children, if they are not refused
abbrev pub over_children : Value → Option Children → Laying
over_children value None = refused
over_children value (Some cs) = there (node value None cs)

-- a node with this value, if the operation is not refused
abbrev pub with_value : Value → Children → Laying
with_value None cs = refused
with_value (Some text) cs = there (node (Some text) None cs)

abbrev mutual
  -- an upper node laid over a lower one, if there is a lower one
  pub laid : Option Node → Node → Laying
  laid lower (node value None os) = over_children (value_over value (lower_value lower)) (laid_under (lower_children lower) os)
  laid lower (node value (Some Disable) os) = absent
  laid lower (node value (Some Replace) os) = over_children value (laid_under no_children os)
  laid None (node value (Some Merge) os) = absent
  laid (Some lower) (node value (Some Merge) os) = over_children (value_over value (value_of lower)) (laid_under (under lower) os)
  laid lower (node value (Some Add) os) = with_value (sum_of (lower_value lower) value) (lower_children lower)
  laid lower (node value (Some Mul) os) = with_value (product_of (lower_value lower) value) (lower_children lower)
  laid lower (node value (Some Tokens) os) = there (node (Some (words_over value (lower_value lower))) None (lower_children lower))

  -- children laid over the children of a lower node, of which those stay that have no other name than these
  pub laid_under : Children → Children → Option Children
  laid_under lower no_children = Some lower
  laid_under lower (child name o os) =
      with_lower (before name lower) (with_laid name (laid (child_named name lower) o) (laid_under (behind name lower) os))

-- names, from the root on
abbrev pub Path : Type 0
Path = List (List ℕ)

-- a tree as a map: what stands at each path, if anything does
abbrev pub Paths : Type 0
Paths = Path → Option Entry

-- what a tree has at a path, and nothing where there is no tree
abbrev pub at_if : Option Paths → Paths
at_if None path = None
at_if (Some tree) path = tree path

-- the tree below a name, if there is one
abbrev pub below : List ℕ → Paths → Option Paths
below name tree = if is_some (tree (name ∷ [])) then Some (λ path. tree (name ∷ path)) else None

-- the same of a tree that may be absent
abbrev pub below_if : List ℕ → Option Paths → Option Paths
below_if name lower = option_and_then (below name) lower

-- the value at the root, if there is a tree and it has one
abbrev pub root_value : Option Paths → Value
root_value tree = option_and_then (λ (e : Entry). e.value) (at_if tree [])

-- the mark at the root
abbrev pub root_mark : Paths → Option TreeMark
root_mark tree = option_and_then (λ (e : Entry). e.mark) (tree [])

-- a node with this value and no mark
abbrev pub plain : Value → Option Entry
plain value = Some (record { value = value; mark = None })

-- the lower tree's root with another value
abbrev pub root_with : Value → Option Paths → Option Entry
root_with value lower = option_map (λ (e : Entry). record e { value = value }) (at_if lower [])

-- what stands at the root of the upper tree, whose mark and value these are, laid over the lower one
abbrev pub root_by : Option TreeMark → Value → Option Paths → Option Entry
root_by None value lower = plain (value_over value (root_value lower))
root_by (Some Disable) value lower = None
root_by (Some Replace) value lower = plain value
root_by (Some Merge) value None = None
root_by (Some Merge) value (Some lower) = plain (value_over value (root_value (Some lower)))
root_by (Some Add) value lower = root_with (sum_of (root_value lower) value) lower
root_by (Some Mul) value lower = root_with (product_of (root_value lower) value) lower
root_by (Some Tokens) value lower = plain (Some (words_over value (root_value lower)))

-- what stands below a name where there is no mark: what `laying` makes of the lower tree there where the upper tree has
-- the name, and else what the lower tree has
abbrev pub unmarked_below : Paths → Option Paths → List ℕ → Path → (Option Paths → Option Entry) → Option Entry
unmarked_below upper lower name path laying = if is_some (upper (name ∷ [])) then laying (below_if name lower) else at_if lower (name ∷ path)

-- what stands below a name, by the mark of the upper tree's root
abbrev pub below_by : Option TreeMark → Paths → Option Paths → List ℕ → Path → (Option Paths → Option Entry) → Option Entry
below_by None upper lower name path laying = unmarked_below upper lower name path laying
below_by (Some Disable) upper lower name path laying = None
below_by (Some Replace) upper lower name path laying = unmarked_below upper None name path laying
below_by (Some Merge) upper None name path laying = None
below_by (Some Merge) upper (Some lower) name path laying = unmarked_below upper (Some lower) name path laying
below_by (Some Add) upper lower name path laying = at_if lower (name ∷ path)
below_by (Some Mul) upper lower name path laying = at_if lower (name ∷ path)
below_by (Some Tokens) upper lower name path laying = at_if lower (name ∷ path)

-- what the upper tree laid over the lower one has at a path
abbrev pub lay : Option Paths → Paths → Paths
lay lower upper [] = root_by (root_mark upper) (root_value (Some upper)) lower
lay lower upper (name ∷ path) =
    below_by (root_mark upper) upper lower name path (λ (b : Option Paths). lay b (λ more. upper (name ∷ more)) path)

-- ---- refusals

-- a mark under which the lower tree is absent
abbrev pub replaces : Option TreeMark → Bool
replaces None = false
replaces (Some Replace) = true
replaces (Some Disable) = false
replaces (Some Merge) = false
replaces (Some Add) = false
replaces (Some Mul) = false
replaces (Some Tokens) = false

-- the lower tree below a name: absent below a `Replace`
abbrev pub lower_below : Option Paths → Paths → List ℕ → Option Paths
lower_below lower upper name = if replaces (root_mark upper) then None else below_if name lower

-- the lower tree at a path of the upper one
abbrev pub lower_at : Option Paths → Paths → Path → Option Paths
lower_at lower upper [] = lower
lower_at lower upper (name ∷ path) = lower_at (lower_below lower upper name) (λ more. upper (name ∷ more)) path

-- what lies below a mark over this lower tree is met
abbrev pub goes_on : Option TreeMark → Option Paths → Bool
goes_on None lower = true
goes_on (Some Disable) lower = false
goes_on (Some Merge) None = false
goes_on (Some Merge) (Some b) = true
goes_on (Some Replace) lower = true
goes_on (Some Add) lower = true
goes_on (Some Mul) lower = true
goes_on (Some Tokens) lower = true

-- a path is met where no node before its end has `Disable`, nor `Merge` where the lower tree is absent
abbrev pub is_met : Option Paths → Paths → Path → Bool
is_met lower upper [] = true
is_met lower upper (name ∷ path) =
    goes_on (root_mark upper) lower && is_met (lower_below lower upper name) (λ more. upper (name ∷ more)) path

-- an operation that has no result
abbrev pub is_bad : Option Entry → Option Paths → Bool
is_bad None lower = false
is_bad (Some e) lower = bad_by e.mark e.value lower
  where
    bad_by : Option TreeMark → Value → Option Paths → Bool
    bad_by None value lower = false
    bad_by (Some Add) value lower = is_none (sum_of (root_value lower) value)
    bad_by (Some Mul) value lower = is_none (product_of (root_value lower) value)
    bad_by (Some Disable) value lower = false
    bad_by (Some Replace) value lower = false
    bad_by (Some Merge) value lower = false
    bad_by (Some Tokens) value lower = false

-- a path is met, and what stands there is an operation without result
abbrev pub is_refused_at : Option Paths → Paths → Path → Bool
is_refused_at lower upper path = is_met lower upper path && is_bad (upper path) (lower_at lower upper path)

-- ---- nodes as maps from paths

-- the map of a node, if there is a node
abbrev pub paths_if : Option Node → Option Paths
paths_if None = None
paths_if (Some n) = Some (at n)

-- what a laying has at a path
abbrev pub laying_at : Laying → Paths
laying_at refused path = None
laying_at absent path = None
laying_at (there n) path = at n path

-- ---- the law of overlays

-- a node has at each path what an upper node laid over a lower one has there, and at no met path an operation is refused
pub record HasLaid (lower upper n : Node) : Type 0 where
  pub laid : (path : Path) → at n path ≡ lay (Some (at lower)) (at upper) path
  pub met : (path : Path) → is_refused_at (Some (at lower)) (at upper) path ≡ false

-- the operation at some met path is refused
abbrev pub IsRefused : Node → Node → Type 0
IsRefused lower upper = (path : Path) × IsTrue (is_refused_at (Some (at lower)) (at upper) path)

-- for trees that may be laid over one another, the recursion gives at each path what the map from paths says, and it is
-- refused exactly where an operation at a met path is
pub record LaidByPath : Type 0 where
  pub stands : (lower upper n : Node) → IsTrue (is_resolved lower) → IsTrue (is_layable upper) → laid (Some lower) upper ≡ there n → HasLaid lower upper n
  pub refuses : (lower upper : Node) → IsTrue (is_resolved lower) → IsTrue (is_layable upper) → laid (Some lower) upper ≡ refused → IsRefused lower upper

-- Lists of words read from the back: which words of an upper list take words away, and which of its words stay.

-- the words that are taken away by the removals among these words
abbrev pub removed_words : List (List ℕ) → List (List ℕ)
removed_words words = map (drop 1) (filter is_removal words)

-- whether a removal among these words takes the word away
abbrev pub removes : List (List ℕ) → List ℕ → Bool
removes words word = list_any (bytes_eq word) (removed_words words)

-- the words that are no removals and that no later word takes away
abbrev pub survivors : List (List ℕ) → List (List ℕ)
survivors [] = []
survivors (word ∷ words) = if is_removal word || removes words word then survivors words else word ∷ survivors words

-- a list with a word, in the order in which a fold takes them
abbrev pub with_added : List (List ℕ) → List ℕ → List (List ℕ)
with_added found word = including word found

-- the test passes the words of the list, and no others
abbrev pub TellsWords : (List ℕ → Bool) → List (List ℕ) → Type 0
TellsWords test words = (word : List ℕ) → test word ≡ list_any (bytes_eq word) words

-- the test passes those of the words that the list lacks, and no others
abbrev pub TellsLacking : (List ℕ → Bool) → List (List ℕ) → List (List ℕ) → Type 0
TellsLacking test words found = (word : List ℕ) → test word ≡ (list_any (bytes_eq word) words && not (list_any (bytes_eq word) found))

-- what the words of an upper list do: the words that it adds for good, the last one first, and a test for those that it takes away
abbrev pub AreChanges : List (List ℕ) → (List ℕ → Bool) → List (List ℕ) → Type 0
AreChanges added is_removed upper = (reverse added ≡ survivors upper) × TellsWords is_removed (removed_words upper)

-- The operations on numbers, and their results before they are printed.

-- what an operation makes of two raws
abbrev pub function_of : Operation → ℤ → ℤ → ℤ
function_of Sum x y = x +ℤ y
function_of Product x y = product x y

-- the result for two texts, where both are numbers and it is in range
abbrev pub number_by : (ℤ → ℤ → ℤ) → List ℕ → List ℕ → Option ℤ
number_by operation lower upper =
    option_and_then (λ x. option_and_then (λ y. in_range (operation x y)) (number_of upper)) (number_of lower)

-- What faults tell: a refusal tells a fact, and want of memory tells nothing.

-- a fact of a refused overlay
abbrev pub IfBadOp : OverlayFault → Type 0 → Type 0
IfBadOp overlay.BadOp fact = fact
IfBadOp overlay.OutOfMemory fact = Unit {0}

-- a fact of a refused resolution
abbrev pub IfRefusal : MergeFault → Type 0 → Type 0
IfRefusal (merge.NoParent index) fact = fact
IfRefusal (merge.Cycle index) fact = fact
IfRefusal (merge.ChainTooLong index) fact = fact
IfRefusal (merge.BadOp index) fact = fact
IfRefusal merge.OutOfMemory fact = Unit {0}

-- a template whose tree has this fault is refused by its number
abbrev pub refusal_at : ℕ → OverlayFault → MergeFault
refusal_at number overlay.BadOp = merge.BadOp number
refusal_at number overlay.OutOfMemory = merge.OutOfMemory

-- What the steps of an overlay do to lists of children: the words in which its functions speak of trees in memory.

-- the node behind a reference, if there is a tree
abbrev pub node_if : Option (Bor Tree) → Option Node
node_if None = None
node_if (Some tree) = Some (node_of tree.now)

abbrev pub is_sound_if : Option Node → Bool
is_sound_if None = true
is_sound_if (Some n) = is_sound n

-- what a tree that may be there stands for
abbrev pub laying_of : Option Tree → Laying
laying_of None = absent
laying_of (Some tree) = there (node_of tree)

-- a tree is that of a laying, or the laying is refused
abbrev pub IsTreeOf : Result Tree OverlayFault → Laying → Type 0
IsTreeOf (Ok tree) laying = laying ≡ there (node_of tree)
IsTreeOf (Err fault) laying = IfBadOp fault (laying ≡ refused)

-- an upper node laid over a lower one as if it had no mark
abbrev pub laid_unmarked : Option Node → Node → Laying
laid_unmarked lower upper = over_children (value_over (value_of upper) (lower_value lower)) (laid_under (lower_children lower) (under upper))

-- the children before a name went from the lower ones to the end of the new ones
pub record IsPast (name : List ℕ) (old new lower rest : Children) : Type 0 where
  pub passed : new ≡ followed_by old (before name lower)
  pub none_before : before name rest ≡ no_children
  pub named : child_named name rest ≡ child_named name lower
  pub behind : behind name rest ≡ behind name lower
  pub sound : are_sound rest ≡ true
