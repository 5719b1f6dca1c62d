-- Lists of children: one behind another, and the places of a name in a list that ascends.
use Rattle.sim_merge.proofs.Common.{[], ap, drop, laid, Less, List, Node, node, None, refl, Some, sym, Tree, true, Value, ◌&&◌, ◌++◌, ◌+◌, ◌<◌, ◌∙◌, ◌∷◌, ◌≡◌}
use Rattle.sim_merge.proofs.Common.{are_sound, Children, cond-true, is_before, is_least, map, node_step, out-Child, roll-Tree, slice_cmp, with_laid, with_lower}
use Rattle.sim_merge.proofs.Common.{at_drop_more, bytes_eq, child_named, children_of, fold_out-Tree, laid_unmarked, lower_children, over_children, OverlayFault}
use Rattle.sim_merge.proofs.Common.{before, Child-F, Greater, IfBadOp, is_sound, named_of, nat_cmp, node_of, nodes_of, Ordering, out-Tree, refused, value_of}
use Rattle.sim_merge.proofs.Common.{behind, Bool, child, Child, Equal, false, get_or, is_eq, is_lt, IsPast, Laying, length, Option, subst, there, Tree-F, under}
use Rattle.sim_merge.proofs.Common.{bytes_eq-Decides, fold-roll-Child, fold-roll-Tree, fold_out-Child, is_eq-slice_cmp, nat_list_cmp_total, ordering_reverse, ℕ}
use Rattle.sim_merge.proofs.Common.{child_step, cond-false, followed_by, laid_under, lower_value, map-append, no_children, roll-Child, true≢false, value_over}
use Rattle.{sim_base.proofs.Tests.left_true, sim_base.proofs.Tests.right_true, sim_merge.specs.declared.fault.OverlayFault.TheVariants.BadOp}
use Rattle.{sim_merge.specs.declared.fault.OverlayFault.TheVariants.OutOfMemory, std.proofs.lemmas.Bool.and_from}

-- The order of names: of two names that differ exactly one stands before the other.

less_from : (o : Ordering) → is_lt o ≡ true → o ≡ Less
less_from Less e = refl
less_from Equal e = absurd (true≢false (sym e))
less_from Greater e = absurd (true≢false (sym e))

reversed : (x y : List ℕ) → is_before x y ≡ true → slice_cmp nat_cmp y x ≡ Greater
reversed x y e = nat_list_cmp_total.antisymm y x ∙ ap ordering_reverse (less_from (slice_cmp nat_cmp x y) e)

pub is_before-trans : (x y z : List ℕ) → is_before x y ≡ true → is_before y z ≡ true → is_before x z ≡ true
is_before-trans x y z e f =
    ap is_lt (nat_list_cmp_total.trans x y z (less_from (slice_cmp nat_cmp x y) e) (less_from (slice_cmp nat_cmp y z) f))

pub is_before-asym : (x y : List ℕ) → is_before x y ≡ true → is_before y x ≡ false
is_before-asym x y e = ap is_lt (reversed x y e)

pub is_before-irrefl : (x : List ℕ) → is_before x x ≡ false
is_before-irrefl x = by (is_before x x) refl
  where
    by : (b : Bool) → is_before x x ≡ b → is_before x x ≡ false
    by true e = is_before-asym x x e
    by false e = e

-- names of which one stands before the other differ
pub bytes_eq-before : (x y : List ℕ) → is_before x y ≡ true → bytes_eq x y ≡ false
bytes_eq-before x y e = sym (is_eq-slice_cmp x y) ∙ ap is_eq (less_from (slice_cmp nat_cmp x y) e)

pub bytes_eq-behind : (x y : List ℕ) → is_before x y ≡ true → bytes_eq y x ≡ false
bytes_eq-behind x y e = sym (is_eq-slice_cmp y x) ∙ ap is_eq (reversed x y e)

-- names that differ, of which the first does not stand before the second
pub is_before-total : (x y : List ℕ) → is_before x y ≡ false → bytes_eq x y ≡ false → is_before y x ≡ true
is_before-total x y e f = by (slice_cmp nat_cmp x y) refl
  where
    by : (o : Ordering) → slice_cmp nat_cmp x y ≡ o → is_before y x ≡ true
    by Less is = absurd (true≢false (sym (ap is_lt is) ∙ e))
    by Equal is = absurd (true≢false (sym (ap is_eq is) ∙ (is_eq-slice_cmp x y ∙ f)))
    by Greater is = ap is_lt (nat_list_cmp_total.antisymm y x ∙ ap ordering_reverse is)

-- ---- one behind another

pub followed_by-end : (cs : Children) → followed_by cs no_children ≡ cs
followed_by-end no_children = refl
followed_by-end (child name n cs) = ap (λ ds. child name n ds) (followed_by-end cs)

pub followed_by-assoc : (xs ys zs : Children) → followed_by (followed_by xs ys) zs ≡ followed_by xs (followed_by ys zs)
followed_by-assoc no_children ys zs = refl
followed_by-assoc (child name n xs) ys zs = ap (λ ds. child name n ds) (followed_by-assoc xs ys zs)

pub children_of-append : (xs ys : List (List ℕ × Node)) → children_of (xs ++ ys) ≡ followed_by (children_of xs) (children_of ys)
children_of-append [] ys = refl
children_of-append (x ∷ xs) ys = ap (λ ds. child x.0 x.1 ds) (children_of-append xs ys)

pub with_lower-followed_by : (xs ys : Children) (more : Option Children) → with_lower (followed_by xs ys) more ≡ with_lower xs (with_lower ys more)
with_lower-followed_by xs ys None = refl
with_lower-followed_by xs ys (Some more) = ap Some (followed_by-assoc xs ys more)

pub with_lower-none : (more : Option Children) → with_lower no_children more ≡ more
with_lower-none None = refl
with_lower-none (Some more) = refl

pub with_lower-child : (name : List ℕ) (n : Node) (more : Option Children) → with_lower (child name n no_children) more ≡ with_laid name (there n) more
with_lower-child name n None = refl
with_lower-child name n (Some more) = refl

-- ---- names in a list that ascends

pub is_least-before : (x name : List ℕ) (cs : Children) → is_before x name ≡ true → is_least name cs ≡ true → is_least x cs ≡ true
is_least-before x name no_children e least = refl
is_least-before x name (child other n cs) e least =
    and_from (is_before x other) (is_least x cs) (is_before-trans x name other e (left_true (is_before name other) (is_least name cs) least))
    (is_least-before x name cs e (right_true (is_before name other) (is_least name cs) least))

-- a name before all of a list has none before it, none of its own, and all behind it
pub before-least : (name : List ℕ) (cs : Children) → is_least name cs ≡ true → before name cs ≡ no_children
before-least name no_children least = refl
before-least name (child other n cs) least =
    cond-false (is_before other name) _ _ (is_before-asym name other (left_true (is_before name other) (is_least name cs) least))
    ∙ before-least name cs (right_true (is_before name other) (is_least name cs) least)

pub child_named-least : (name : List ℕ) (cs : Children) → is_least name cs ≡ true → child_named name cs ≡ None
child_named-least name no_children least = refl
child_named-least name (child other n cs) least =
    cond-false (bytes_eq other name) _ _ (bytes_eq-behind name other (left_true (is_before name other) (is_least name cs) least))
    ∙ child_named-least name cs (right_true (is_before name other) (is_least name cs) least)

pub behind-least : (name : List ℕ) (cs : Children) → is_least name cs ≡ true → behind name cs ≡ cs
behind-least name no_children least = refl
behind-least name (child other n cs) least =
    cond-true (is_before name other) _ _ (left_true (is_before name other) (is_least name cs) least)
    ∙ ap (λ ds. child other n ds) (behind-least name cs (right_true (is_before name other) (is_least name cs) least))

-- ---- the first child

-- it stands before the name
pub before-passed : (name other : List ℕ) (n : Node) (cs : Children) → is_before other name ≡ true → before name (child other n cs) ≡ child other n
    (before name cs)
before-passed name other n cs e = cond-true (is_before other name) _ _ e

pub child_named-passed : (name other : List ℕ) (n : Node) (cs : Children) → is_before other name ≡ true → child_named name (child other n cs) ≡ child_named name
    cs
child_named-passed name other n cs e = cond-false (bytes_eq other name) _ _ (bytes_eq-before other name e)

pub behind-passed : (name other : List ℕ) (n : Node) (cs : Children) → is_before other name ≡ true → behind name (child other n cs) ≡ behind name cs
behind-passed name other n cs e = cond-false (is_before name other) _ _ (is_before-asym other name e)

pub are_sound-rest : (other : List ℕ) (n : Node) (cs : Children) → are_sound (child other n cs) ≡ true → are_sound cs ≡ true
are_sound-rest other n cs sound = right_true (is_sound n) (are_sound cs) (right_true (is_least other cs) (is_sound n && are_sound cs) sound)

pub is_sound-first : (other : List ℕ) (n : Node) (cs : Children) → are_sound (child other n cs) ≡ true → is_sound n ≡ true
is_sound-first other n cs sound = left_true (is_sound n) (are_sound cs) (right_true (is_least other cs) (is_sound n && are_sound cs) sound)

pub is_least-rest : (other : List ℕ) (n : Node) (cs : Children) → are_sound (child other n cs) ≡ true → is_least other cs ≡ true
is_least-rest other n cs sound = left_true (is_least other cs) (is_sound n && are_sound cs) sound

-- it has the name
pub is_least-same : (name other : List ℕ) (n : Node) (cs : Children) → are_sound (child other n cs) ≡ true → bytes_eq other name ≡ true
    → is_least name cs ≡ true
is_least-same name other n cs sound e =
    ap (λ x. is_least x cs) (sym ((bytes_eq-Decides other name).0 e)) ∙ is_least-rest other n cs sound

pub behind-same : (name other : List ℕ) (n : Node) (cs : Children) → are_sound (child other n cs) ≡ true → bytes_eq other name ≡ true
    → behind name (child other n cs) ≡ cs
behind-same name other n cs sound e =
    cond-false (is_before name other) _ _ (ap (is_before name) ((bytes_eq-Decides other name).0 e) ∙ is_before-irrefl name)
    ∙ behind-least name cs (is_least-same name other n cs sound e)

-- it stands behind the name
pub is_least-stopped : (name other : List ℕ) (n : Node) (cs : Children) → are_sound (child other n cs) ≡ true → is_before other name ≡ false
    → bytes_eq other name ≡ false →
    is_least name (child other n cs) ≡ true
is_least-stopped name other n cs sound e f =
    let here : is_before name other ≡ true = is_before-total other name e f in
    and_from (is_before name other) (is_least name cs) here (is_least-before name other cs here (is_least-rest other n cs sound))

-- it has the name or stands behind it
pub before-stopped : (name other : List ℕ) (n : Node) (cs : Children) → are_sound (child other n cs) ≡ true → is_before other name ≡ false →
    before name (child other n cs) ≡ no_children
before-stopped name other n cs sound e = by (bytes_eq other name) refl
  where
    by : (b : Bool) → bytes_eq other name ≡ b → before name (child other n cs) ≡ no_children
    by true is = cond-false (is_before other name) _ _ e ∙ before-least name cs (is_least-same name other n cs sound is)
    by false is = before-least name (child other n cs) (is_least-stopped name other n cs sound e is)

-- where no name stands before, the first one does not
pub is_before-stopped : (name other : List ℕ) (n : Node) (cs : Children) → before name (child other n cs) ≡ no_children → is_before other name ≡ false
is_before-stopped name other n cs none = by (is_before other name) refl
  where
    differ : {X : Type 0} (m : Node) (ds : Children) → child other m ds ≡ no_children → X
    differ m ds e = cc

    by : (b : Bool) → is_before other name ≡ b → is_before other name ≡ false
    by true is = differ n (before name cs) (sym (before-passed name other n cs is) ∙ none)
    by false is = is

pub child_named-stopped : (name other : List ℕ) (n : Node) (cs : Children) → are_sound (child other n cs) ≡ true → before name (child other n cs) ≡ no_children
    → bytes_eq other name ≡ false →
    child_named name (child other n cs) ≡ None
child_named-stopped name other n cs sound none e =
    child_named-least name (child other n cs) (is_least-stopped name other n cs sound (is_before-stopped name other n cs none) e)

pub behind-stopped : (name other : List ℕ) (n : Node) (cs : Children) → are_sound (child other n cs) ≡ true → before name (child other n cs) ≡ no_children
    → bytes_eq other name ≡ false →
    behind name (child other n cs) ≡ child other n cs
behind-stopped name other n cs sound none e =
    behind-least name (child other n cs) (is_least-stopped name other n cs sound (is_before-stopped name other n cs none) e)

-- The nodes that lists of children in memory stand for.

pub named_of-roll : (c : Child-F Child Tree) → named_of (roll-Child c) ≡ (c.name, node_of c.tree)
named_of-roll = fold-roll-Child (List ℕ × Node) Node child_step node_step

pub named_of-out : (c : Child) → named_of c ≡ ((out-Child c).name, node_of (out-Child c).tree)
named_of-out c = fold_out-Child (List ℕ × Node) Node child_step node_step c

pub node_of-out : (t : Tree) → node_of t ≡ node (out-Tree t).value (out-Tree t).mark (nodes_of (out-Tree t).children.items)
node_of-out t = fold_out-Tree (List ℕ × Node) Node child_step node_step t

pub node_of-roll : (t : Tree-F Child Tree) → node_of (roll-Tree t) ≡ node t.value t.mark (nodes_of t.children.items)
node_of-roll = fold-roll-Tree (List ℕ × Node) Node child_step node_step

pub nodes_of-append : (xs ys : List Child) → nodes_of (xs ++ ys) ≡ followed_by (nodes_of xs) (nodes_of ys)
nodes_of-append xs ys = ap children_of (map-append named_of xs ys) ∙ children_of-append (map named_of xs) (map named_of ys)

pub nodes_of-push : (xs : List Child) (c : Child-F Child Tree) → nodes_of (xs ++ roll-Child c ∷ []) ≡ followed_by (nodes_of xs)
    (child c.name (node_of c.tree) no_children)
nodes_of-push xs c = nodes_of-append xs (roll-Child c ∷ []) ∙ ap (λ (p : List ℕ × Node). followed_by (nodes_of xs) (child p.0 p.1 no_children))
    (named_of-roll c)

-- the child at a place, and those behind it
pub nodes_of-at : (xs : List Child) (i : ℕ) (c : Child) → i < length xs → c ≡ get_or xs i c →
    nodes_of (drop i xs) ≡ child (named_of c).0 (named_of c).1 (nodes_of (drop (i + 1) xs))
nodes_of-at xs i c within is =
    at_drop_more nodes_of xs i c within ∙ ap (λ x. child (named_of x).0 (named_of x).1 (nodes_of (drop (i + 1) xs))) (sym is)

pub nodes_of-child : (xs : List Child) (i : ℕ) (c : Child) → i < length xs → c ≡ get_or xs i c →
    nodes_of (drop i xs) ≡ child (out-Child c).name (node_of (out-Child c).tree) (nodes_of (drop (i + 1) xs))
nodes_of-child xs i c within is =
    nodes_of-at xs i c within is ∙ ap (λ (p : List ℕ × Node). child p.0 p.1 (nodes_of (drop (i + 1) xs))) (named_of-out c)

pub nodes_of-first : (xs : List Child) (c : Child) → 0 < length xs → c ≡ get_or xs 0 c →
    nodes_of xs ≡ child (named_of c).0 (named_of c).1 (nodes_of (drop 1 xs))
nodes_of-first xs c within is = nodes_of-at xs 0 c within is

-- ---- the first child

pub first_named-other : (xs : List Child) (c : Child) (name : List ℕ) → 0 < length xs → c ≡ get_or xs 0 c → are_sound (nodes_of xs) ≡ true
    → before name (nodes_of xs) ≡ no_children →
    bytes_eq (named_of c).0 name ≡ false → child_named name (nodes_of xs) ≡ None
first_named-other xs c name within is sound none other =
    let P : Children → Type 0 = λ cs. are_sound cs ≡ true → before name cs ≡ no_children → child_named name cs ≡ None in
    subst P (sym (nodes_of-first xs c within is)) (λ s n. child_named-stopped name (named_of c).0 (named_of c).1 (nodes_of (drop 1 xs)) s n other) sound none

pub behind-other : (xs : List Child) (c : Child) (name : List ℕ) → 0 < length xs → c ≡ get_or xs 0 c → are_sound (nodes_of xs) ≡ true
    → before name (nodes_of xs) ≡ no_children →
    bytes_eq (named_of c).0 name ≡ false → behind name (nodes_of xs) ≡ nodes_of xs
behind-other xs c name within is sound none other =
    let P : Children → Type 0 = λ cs. are_sound cs ≡ true → before name cs ≡ no_children → behind name cs ≡ cs in
    subst P (sym (nodes_of-first xs c within is)) (λ s n. behind-stopped name (named_of c).0 (named_of c).1 (nodes_of (drop 1 xs)) s n other) sound none

pub behind-first : (xs : List Child) (c : Child) (name : List ℕ) → 0 < length xs → c ≡ get_or xs 0 c → are_sound (nodes_of xs) ≡ true →
    bytes_eq (named_of c).0 name ≡ true → behind name (nodes_of xs) ≡ nodes_of (drop 1 xs)
behind-first xs c name within is sound same =
    let P : Children → Type 0 = λ cs. are_sound cs ≡ true → behind name cs ≡ nodes_of (drop 1 xs) in
    subst P (sym (nodes_of-first xs c within is)) (λ s. behind-same name (named_of c).0 (named_of c).1 (nodes_of (drop 1 xs)) s same) sound

pub are_sound-drop : (xs : List Child) (i : ℕ) (c : Child) → i < length xs → c ≡ get_or xs i c → are_sound (nodes_of (drop i xs)) ≡ true
    → are_sound (nodes_of (drop (i + 1) xs)) ≡ true
are_sound-drop xs i c within is sound =
    are_sound-rest (named_of c).0 (named_of c).1 (nodes_of (drop (i + 1) xs)) (ap are_sound (sym (nodes_of-at xs i c within is)) ∙ sound)

-- the tree of the first child is sound
pub is_sound-first_named : (xs : List Child) (c : Child) → 0 < length xs → c ≡ get_or xs 0 c → are_sound (nodes_of xs) ≡ true
    → is_sound (node_of (out-Child c).tree) ≡ true
is_sound-first_named xs c within is sound =
    ap (λ (p : List ℕ × Node). is_sound p.1) (sym (named_of-out c))
    ∙ is_sound-first (named_of c).0 (named_of c).1 (nodes_of (drop 1 xs)) (ap are_sound (sym (nodes_of-first xs c within is)) ∙ sound)

-- ---- the children before a name

pub past : (name : List ℕ) (old out lower rest : Children) → followed_by out (before name rest) ≡ followed_by old (before name lower)
    → before name rest ≡ no_children →
    child_named name rest ≡ child_named name lower → behind name rest ≡ behind name lower → are_sound rest ≡ true → IsPast name old out lower rest
past name old out lower rest passed none named behind sound = record {
  passed = sym (followed_by-end out) ∙ ap (followed_by out) (sym none) ∙ passed;
  none_before = none;
  named = named;
  behind = behind;
  sound = sound;
}

pub before-at : (xs : List Child) (i : ℕ) (c : Child) (name : List ℕ) → i < length xs → c ≡ get_or xs i c → is_before (named_of c).0 name ≡ true →
    before name (nodes_of (drop i xs)) ≡ child (named_of c).0 (named_of c).1 (before name (nodes_of (drop (i + 1) xs)))
before-at xs i c name within is e = ap (before name) (nodes_of-at xs i c within is) ∙ before-passed name (named_of c).0 (named_of c).1
    (nodes_of (drop (i + 1) xs)) e

pub child_named-at : (xs : List Child) (i : ℕ) (c : Child) (name : List ℕ) → i < length xs → c ≡ get_or xs i c → is_before (named_of c).0 name ≡ true →
    child_named name (nodes_of (drop i xs)) ≡ child_named name (nodes_of (drop (i + 1) xs))
child_named-at xs i c name within is e = ap (child_named name) (nodes_of-at xs i c within is) ∙ child_named-passed name (named_of c).0 (named_of c).1
    (nodes_of (drop (i + 1) xs)) e

pub behind-at : (xs : List Child) (i : ℕ) (c : Child) (name : List ℕ) → i < length xs → c ≡ get_or xs i c → is_before (named_of c).0 name ≡ true →
    behind name (nodes_of (drop i xs)) ≡ behind name (nodes_of (drop (i + 1) xs))
behind-at xs i c name within is e = ap (behind name) (nodes_of-at xs i c within is) ∙ behind-passed name (named_of c).0 (named_of c).1
    (nodes_of (drop (i + 1) xs)) e

-- a child that does not stand before the name stops the walk
pub before-at-stop : (xs : List Child) (i : ℕ) (c : Child) (name : List ℕ) → i < length xs → c ≡ get_or xs i c → are_sound (nodes_of (drop i xs)) ≡ true
    → is_before (named_of c).0 name ≡ false →
    before name (nodes_of (drop i xs)) ≡ no_children
before-at-stop xs i c name within is sound e =
    let at = nodes_of-at xs i c within is in
    ap (before name) at ∙ before-stopped name (named_of c).0 (named_of c).1 (nodes_of (drop (i + 1) xs)) (ap are_sound (sym at) ∙ sound) e

-- The steps of an overlay, as steps of its definition.

pub IfBadOp-weaker : (fault : OverlayFault) (P Q : Type 0) → (P → Q) → IfBadOp fault P → IfBadOp fault Q
IfBadOp-weaker BadOp P Q f p = f p
IfBadOp-weaker OutOfMemory P Q f p = tt

-- an upper child, once the lower children before it are passed
laid_under-past : (name : List ℕ) (upper : Node) (old pushed lower rest : Children) → IsPast name old pushed lower rest → (more : Children) →
    with_lower old (laid_under lower (child name upper more)) ≡ with_lower pushed
    (with_laid name (laid (child_named name rest) upper) (laid_under (behind name rest) more))
laid_under-past name upper old pushed lower rest past more =
    sym (with_lower-followed_by old (before name lower) (with_laid name (laid (child_named name lower) upper) (laid_under (behind name lower) more)))
    ∙ ap (λ cs. with_lower cs (with_laid name (laid (child_named name lower) upper) (laid_under (behind name lower) more))) (sym past.passed)
    ∙ ap (λ n. with_lower pushed (with_laid name (laid n upper) (laid_under (behind name lower) more))) (sym past.named)
    ∙ ap (λ cs. with_lower pushed (with_laid name (laid (child_named name rest) upper) (laid_under cs more))) (sym past.behind)

pub merged-step : (name : List ℕ) (upper : Node) (old pushed new lower rest left : Children) (laying : Laying) → IsPast name old pushed lower rest →
    laid (child_named name rest) upper ≡ laying → ((more : Option Children) → with_lower pushed (with_laid name laying more) ≡ with_lower new more) →
    left ≡ behind name rest → (more : Children) → with_lower old (laid_under lower (child name upper more)) ≡ with_lower new (laid_under left more)
merged-step name upper old pushed new lower rest left laying past is added is_behind more =
    laid_under-past name upper old pushed lower rest past more
    ∙ ap (λ l. with_lower pushed (with_laid name l (laid_under (behind name rest) more))) is
    ∙ added (laid_under (behind name rest) more)
    ∙ ap (λ cs. with_lower new (laid_under cs more)) (sym is_behind)

none_from-with_lower : (cs : Children) (more : Option Children) → with_lower cs more ≡ None → more ≡ None
none_from-with_lower cs None e = refl
none_from-with_lower cs (Some more) e = absurd (differ (followed_by cs more) e)
  where
    differ : (ds : Children) → Some ds ≡ None → ⊥
    differ ds e = cc

pub refused-step : (name : List ℕ) (upper : Node) (old pushed lower rest : Children) → IsPast name old pushed lower rest →
    laid (child_named name rest) upper ≡ refused → (more : Children) → laid_under lower (child name upper more) ≡ None
refused-step name upper old pushed lower rest past is more =
    none_from-with_lower old (laid_under lower (child name upper more))
    (laid_under-past name upper old pushed lower rest past more ∙ ap (λ l. with_lower pushed (with_laid name l (laid_under (behind name rest) more))) is)

-- ---- a node whose root has no mark

under-out : (t : Tree) → under (node_of t) ≡ nodes_of (out-Tree t).children.items
under-out t = ap under (node_of-out t)

pub unmarked-there : (lower : Option Node) (upper : Tree) (made : Tree-F Child Tree) → made.value ≡ value_over (value_of (node_of upper)) (lower_value lower)
    → made.mark ≡ None →
    laid_under (lower_children lower) (nodes_of (out-Tree upper).children.items) ≡ Some (nodes_of made.children.items) → laid_unmarked lower (node_of upper) ≡
    there (node_of (roll-Tree made))
unmarked-there lower upper made value mark children =
    ap (λ os. over_children (value_over (value_of (node_of upper)) (lower_value lower)) (laid_under (lower_children lower) os)) (under-out upper)
    ∙ ap (over_children (value_over (value_of (node_of upper)) (lower_value lower))) children
    ∙ ap (λ (v : Value). there (node v None (nodes_of made.children.items))) (sym value)
    ∙ ap (λ m. there (node made.value m (nodes_of made.children.items))) (sym mark)
    ∙ ap there (sym (node_of-roll made))

pub unmarked-refused : (lower : Option Node) (upper : Tree) → laid_under (lower_children lower) (nodes_of (out-Tree upper).children.items) ≡ None →
    laid_unmarked lower (node_of upper) ≡ refused
unmarked-refused lower upper children =
    ap (λ os. over_children (value_over (value_of (node_of upper)) (lower_value lower)) (laid_under (lower_children lower) os)) (under-out upper)
    ∙ ap (over_children (value_over (value_of (node_of upper)) (lower_value lower))) children
