-- Children that ascend by name, one more at a time.
use Rattle.sim_tree.proofs.Common.{SourceMeets, String, string, string_bytes, string_cmp, subst, sym, Tokens, Tree, TreeFault, TreeMeets, true, Value, value_of}
use Rattle.sim_tree.proofs.Common.{[], Add, AllByRecursion, ap, append_assoc, are_root_members, are_sound, arith, array, as_object, bears, Bool, boolean}
use Rattle.sim_tree.proofs.Common.{bytes_eq, bytes_eq-Decides, Child, children_in, children_of, codes, Data, Entry, Err, false, get, Global, height, IfOk}
use Rattle.sim_tree.proofs.Common.{if◌then◌else◌, is_before, is_child_key, is_least, is_node, is_root_key, is_sound, IsStrictlySortedBy, keys_of, kind_of}
use Rattle.sim_tree.proofs.Common.{length, Less, levels, levels_under, List, list_all, map, map-append, mark_of, max, member, Members, members_height, Mul}
use Rattle.sim_tree.proofs.Common.{name_in, named_in, nat_lt, nat_tests, next_some, no_members, Node, node, node_in, node_of, nodes_of, None, null, number}
use Rattle.sim_tree.proofs.Common.{object, of_kind, Ok, Option, option_and_then, Origin, origin_in, origin_of, parent_in, refl, Result, root_in, Some, Source}
use Rattle.sim_tree.proofs.Common.{ℕ, ◌&&◌, ◌++◌, ◌||◌, ◌∷◌, ◌≡◌, ◌≤◌}
use Rattle.{sim_base.proofs.Tests.left_true, sim_base.proofs.Tests.right_true, std.proofs.lemmas.Bool.and_from, std.proofs.lemmas.Option.same_Some}

abbrev pub name_of : List ℕ × Node → List ℕ
name_of p = p.0

-- each name stands before those behind it
abbrev pub ascends : List (List ℕ) → Bool
ascends [] = true
ascends (x ∷ xs) = list_all (is_before x) xs && ascends xs

abbrev pub all_sound : List (List ℕ × Node) → Bool
all_sound [] = true
all_sound (p ∷ ps) = is_sound p.1 && all_sound ps

abbrev pub keys_in : List (String Global × Value) → List (List ℕ)
keys_in es = map (λ (e : String Global × Value). string_bytes e.0) es

-- ---- the two parts of soundness

least_of_all : (x : List ℕ) (ps : List (List ℕ × Node)) → list_all (is_before x) (map name_of ps) ≡ true → is_least x (children_of ps) ≡ true
least_of_all x [] e = refl
least_of_all x (p ∷ ps) e =
    and_from _ _ (left_true (is_before x p.0) _ e) (least_of_all x ps (right_true (is_before x p.0) _ e))

-- children that ascend and of which each is sound are sound
pub sound_children : (ps : List (List ℕ × Node)) → ascends (map name_of ps) ≡ true → all_sound ps ≡ true → are_sound (children_of ps) ≡ true
sound_children [] e f = refl
sound_children (p ∷ ps) e f =
    and_from _ _ (least_of_all p.0 ps (left_true (list_all (is_before p.0) (map name_of ps)) _ e))
    (and_from _ _ (left_true (is_sound p.1) _ f)
    (sound_children ps (right_true (list_all (is_before p.0) (map name_of ps)) _ e) (right_true (is_sound p.1) _ f)))

pub all_sound-push : (ps : List (List ℕ × Node)) (p : List ℕ × Node) → all_sound ps ≡ true → is_sound p.1 ≡ true → all_sound (ps ++ p ∷ []) ≡ true
all_sound-push [] p e f = and_from _ _ f refl
all_sound-push (q ∷ qs) p e f = and_from _ _ (left_true (is_sound q.1) _ e) (all_sound-push qs p (right_true (is_sound q.1) _ e) f)

-- ---- the keys of a map

both : (a b c d : Bool) → (a ≡ true → c ≡ true) → (b ≡ true → d ≡ true) → (a && b) ≡ true → (c && d) ≡ true
both a b c d f g e = and_from c d (f (left_true a b e)) (g (right_true a b e))

all_skip : (x : List ℕ) (xs : List (List ℕ)) (k : List ℕ) (ys : List (List ℕ)) → list_all (is_before x) (xs ++ k ∷ ys) ≡ true
    → list_all (is_before x) (xs ++ ys) ≡ true
all_skip x [] k ys e = both (is_before x k) (list_all (is_before x) ys) true (list_all (is_before x) ys) (λ _. refl) (λ h. h) e
all_skip x (z ∷ xs) k ys e = both (is_before x z) (list_all (is_before x) (xs ++ k ∷ ys)) (is_before x z) (list_all (is_before x) (xs ++ ys)) (λ h. h)
    (all_skip x xs k ys) e

-- a name can be left out
pub ascends_skip : (xs : List (List ℕ)) (k : List ℕ) (ys : List (List ℕ)) → ascends (xs ++ k ∷ ys) ≡ true → ascends (xs ++ ys) ≡ true
ascends_skip [] k ys e = right_true (list_all (is_before k) ys) (ascends ys) e
ascends_skip (x ∷ xs) k ys e = both (list_all (is_before x) (xs ++ k ∷ ys)) (ascends (xs ++ k ∷ ys)) (list_all (is_before x) (xs ++ ys)) (ascends (xs ++ ys))
    (all_skip x xs k ys) (ascends_skip xs k ys) e

all_below : (x : String Global) (es : List Entry) → AllByRecursion (λ y. string_cmp x y ≡ Less) (keys_of es) → list_all (is_before (string_bytes x))
    (keys_in es) ≡ true
all_below x [] h = refl
all_below x (e ∷ es) h = rw (h.0) (all_below x es h.1)

-- the keys of a map ascend
pub sorted_ascends : (es : List Entry) → IsStrictlySortedBy string_cmp (keys_of es) → ascends (keys_in es) ≡ true
unfolding IsStrictlySortedBy
sorted_ascends [] h = refl
sorted_ascends (e ∷ es) h = rw (all_below e.0 es h.0) (sorted_ascends es h.1)

-- a child that is read from the next key
pub ascends-more : (old new : List (List ℕ × Node)) (p : List ℕ × Node) (key : List ℕ) (keys : List (List ℕ)) → new ≡ old ++ p ∷ [] → p.0 ≡ key
    → ascends (map name_of old ++ key ∷ keys) ≡ true → ascends (map name_of new ++ keys) ≡ true
ascends-more old new p key keys made named e =
    rw (made, map-append, named, append_assoc) e

-- What an answer of a reader says, in the words of the definitions.

-- a reader that answers has found what is of its kind
pub kind_ok : {X : Type 0} (fits : Bool) (x y : X) → of_kind fits x ≡ Ok y → (fits ≡ true) × (x ≡ y)
kind_ok true x y e = (refl, cc)
kind_ok false x y e = absurd cc

pub bears_add : (value : Option (List ℕ)) (cs : List Child) → 1 ≤ length cs → bears (Some Add) value (nodes_of cs) ≡ false
bears_add value [] e = absurd (omega arith)
bears_add value (c ∷ cs) e = refl

pub bears_mul : (value : Option (List ℕ)) (cs : List Child) → 1 ≤ length cs → bears (Some Mul) value (nodes_of cs) ≡ false
bears_mul value [] e = absurd (omega arith)
bears_mul value (c ∷ cs) e = refl

pub bears_tokens : (value : Option (List ℕ)) (cs : List Child) → 1 ≤ length cs → bears (Some Tokens) value (nodes_of cs) ≡ false
bears_tokens value [] e = absurd (omega arith)
bears_tokens value (c ∷ cs) e = refl

-- a child that is read from the next member
pub named-more : (old new : List (List ℕ × Node)) (name key : List ℕ) (n : Node) (d : Data) (ms : Members)
    → is_child_key key ≡ true → new ≡ old ++ (name, n) ∷ [] → name ≡ key → node_in d ≡ n → old ++ named_in (member key d ms) ≡ new ++ named_in ms
named-more old new name key n d ms child added named read =
    rw (child, added, named, ← read) (sym (append_assoc old ((key, node_in d) ∷ []) (named_in ms)))

one_of : (P : Type 0) (a b : Bool) → (a || b) ≡ true → (a ≡ true → P) → (b ≡ true → P) → P
one_of P true b e f g = f refl
one_of P false b e f g = g e

begins : (key : List ℕ) (text : List ℕ) → is_child_key text ≡ false → bytes_eq key text ≡ true → is_child_key key ≡ false
begins key text e same = subst (λ k. is_child_key k ≡ false) (sym ((bytes_eq-Decides key text).0 same)) e

-- a key that names a template is none of a child
pub root_key_alone : (key : List ℕ) → is_root_key key ≡ true → is_child_key key ≡ false
root_key_alone key e = one_of (is_child_key key ≡ false) (bytes_eq key (codes "@name")) (bytes_eq key (codes "@parent")) e (begins key (codes "@name") refl)
    (begins key (codes "@parent") refl)

-- A tree has no more levels than the value that it is read from.

-- a child, or none
either_way : (child : Bool) (k : List ℕ) (n : Node) (ps : List (List ℕ × Node)) (h m : ℕ) → levels n ≤ h → levels_under (children_of ps) ≤ m
    → levels_under (children_of (if child then (k, n) ∷ ps else ps)) ≤ max h m
either_way true k n ps h m e f = omega (arith, e, f)
either_way false k n ps h m e f = omega (arith, e, f)

mutual
  pub levels_in : (d : Data) → levels (node_in d) ≤ height d
  levels_in null = omega arith
  levels_in (boolean b) = omega arith
  levels_in (number x) = omega arith
  levels_in (string s) = omega arith
  levels_in (array ds) = omega arith
  levels_in (object ms) = omega (arith, levels_in_members ms)

  pub levels_in_members : (ms : Members) → levels_under (children_of (named_in ms)) ≤ members_height ms
  levels_in_members no_members = omega arith
  levels_in_members (member k d ms) =
      either_way (is_child_key k) k (node_in d) (named_in ms) (height d) (members_height ms) (levels_in d) (levels_in_members ms)

-- what is known of a tree that is read of a value of few levels
pub tree_levels : (r : Result Tree TreeFault) (d : Data) → nat_lt 32 (height d) ≡ false → TreeMeets r (of_kind (is_node d) (node_in d))
    → IfOk r (λ tree. levels (node_of tree) ≤ 32)
tree_levels (Ok tree) d e h =
    let few : height d ≤ 32 = grind (arith, nat_tests) in
    subst (λ n. levels n ≤ 32) (kind_ok (is_node d) (node_in d) (node_of tree) h).1 (omega (arith, levels_in d))
tree_levels (Err fault) d e h = tt

-- ---- the root of a source

-- a root without value and mark, and of few levels
pub record IsRoot (n : Node) : Type 0 where
  pub value : value_of n ≡ None
  pub mark : mark_of n ≡ None
  pub levels : levels n ≤ 32

root_is : (fits : Bool) (name : List ℕ) (parent : Option (List ℕ)) (n : Node) (o : Origin)
    → (if fits then Some (record { name = name; parent = parent; root = n }) else None) ≡ Some o → n ≡ o.root
root_is true name parent n o e = ap (λ (p : Origin). p.root) (same_Some _ _ e)
root_is false name parent n o e = absurd cc

an_object : (d : Data) (ms : Members) → as_object d ≡ Some ms → d ≡ object ms
an_object null ms e = absurd cc
an_object (boolean b) ms e = absurd cc
an_object (number x) ms e = absurd cc
an_object (string s) ms e = absurd cc
an_object (array ds) ms e = absurd cc
an_object (object ns) ms e = ap object (same_Some _ _ e)

origin_root : (d : Data) (o : Origin) → origin_in d ≡ Some o → height d ≤ 32 → IsRoot o.root
origin_root d o e few =
    let named = next_some (option_and_then name_in (get (codes "@name") d)) _ o e in
    let parent = next_some (parent_in (get (codes "@parent") d)) _ o named.2 in
    let members = next_some (as_object d) (root_in named.0 parent.0) o parent.2 in
    let root = root_is (are_root_members members.0) named.0 parent.0 (node None None (children_in members.0)) o members.2 in
    let tall : height (object members.0) ≤ 32 = subst (λ v. height v ≤ 32) (an_object d members.0 members.1) few in
    subst IsRoot root (record { value = refl; mark = refl; levels = omega (arith, levels_in_members members.0, tall) })

origin_ok : (r : Option Origin) (o : Origin) → kind_of r ≡ Ok o → r ≡ Some o
origin_ok None o e = absurd cc
origin_ok (Some p) o e = cc

pub source_root : (r : Result Source TreeFault) (d : Data) → nat_lt 32 (height d) ≡ false → SourceMeets r (kind_of (origin_in d))
    → IfOk r (λ source. IsRoot (node_of source.tree))
source_root (Ok source) d e h =
    let few : height d ≤ 32 = grind (arith, nat_tests) in
    origin_root d (origin_of source) (origin_ok (origin_in d) (origin_of source) h) few
source_root (Err fault) d e h = tt

some_levels : (r : Result Source TreeFault) → IfOk r (λ source. IsRoot (node_of source.tree)) → IfOk r (λ source. levels (node_of source.tree) ≤ 32)
some_levels (Ok source) h = h.levels
some_levels (Err fault) h = tt

pub source_levels : (r : Result Source TreeFault) (d : Data) → nat_lt 32 (height d) ≡ false → SourceMeets r (kind_of (origin_in d))
    → IfOk r (λ source. levels (node_of source.tree) ≤ 32)
source_levels r d e h = some_levels r (source_root r d e h)
