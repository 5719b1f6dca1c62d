-- What is laid over a tree has at each path what the map from paths says.
use Rattle.sim_base.proofs.Tests.{left_true, right_true}
use Rattle.sim_merge.proofs.ChildrenLemmas.{are_sound-rest, child_named-least, is_before-asym, is_before-irrefl, is_before-total, is_least-before}
use Rattle.sim_merge.proofs.{ChildrenLemmas.{is_least-rest, is_sound-first}, Common.{absent, Add, ap, are_plain, are_sound, at, at_child, at_if, before}}
use Rattle.sim_merge.proofs.Common.{behind, below, below_if, Bool, bytes_eq, bytes_eq-Decides, child, child_named, Children, cond-false, cond-true, Disable}
use Rattle.sim_merge.proofs.Common.{Entry, false, false_from_ne_true, followed_by, fun_ext, if◌then◌else◌, is_before, is_least, is_none, is_plain, is_some}
use Rattle.sim_merge.proofs.Common.{is_sound, laid, laid_under, lay, Laying, laying_at, List, lower_children, lower_value, Merge, Mul, no_children, Node, node}
use Rattle.sim_merge.proofs.Common.{None, Option, over_children, Path, Paths, paths_if, plain, product_of, refl, refused, Replace, root_by, root_mark}
use Rattle.sim_merge.proofs.Common.{root_value, root_with, Some, subst, sum_of, sym, there, Tokens, TreeMark, true, true≢false, under, unmarked_below, Value}
use Rattle.sim_merge.proofs.{Common.{value_of, value_over, with_laid, with_lower, with_value, words_over, ℕ, [], ◌∙◌, ◌∷◌, ◌≡◌}, FitLemmas.IfNode}

-- ---- options

abbrev or_else : Option Node → Option Node → Option Node
or_else None more = more
or_else (Some n) more = Some n

-- a child that is there or absent
abbrev pub found : Option Node → Laying
found None = absent
found (Some n) = there n

none-found : (o : Option Node) → found o ≡ absent → o ≡ None
none-found None e = refl
none-found (Some n) e = absurd (differ n e)
  where
    differ : (n : Node) → there n ≡ absent → ⊥
    differ n e = cc

pub some-same : (xs ys : Children) → Some xs ≡ Some ys → xs ≡ ys
some-same xs ys e = cc

pub none-some : {X : Type 0} (cs : Children) → None ≡ Some cs → X
none-some cs e = cc

bytes_eq-swap : (x y : List ℕ) → bytes_eq x y ≡ false → bytes_eq y x ≡ false
bytes_eq-swap x y e = false_from_ne_true (bytes_eq y x) (λ h. true≢false (sym ((bytes_eq-Decides x y).1 (sym ((bytes_eq-Decides y x).0 h))) ∙ e))

-- ---- children by name

child_named-followed_by : (name : List ℕ) (xs ys : Children) → child_named name (followed_by xs ys) ≡ or_else (child_named name xs) (child_named name ys)
child_named-followed_by name no_children ys = refl
child_named-followed_by name (child other n xs) ys = by (bytes_eq other name) (child_named-followed_by name xs ys)
  where
    by : (b : Bool) → child_named name (followed_by xs ys) ≡ or_else (child_named name xs) (child_named name ys) →
        (if b then Some n else child_named name (followed_by xs ys)) ≡ or_else (if b then Some n else child_named name xs) (child_named name ys)
    by true e = refl
    by false e = e

-- a name that stands before another one is found before it, and no other name is
child_named-before : (name first : List ℕ) (cs : Children) → is_before name first ≡ true → child_named name (before first cs) ≡ child_named name cs
child_named-before name first no_children e = refl
child_named-before name first (child other n cs) e = by (bytes_eq other name) refl (is_before other first) refl (child_named-before name first cs e)
  where
    by : (b : Bool) → bytes_eq other name ≡ b → (c : Bool) → is_before other first ≡ c → child_named name (before first cs) ≡ child_named name cs →
        child_named name (if c then child other n (before first cs) else before first cs) ≡ (if b then Some n else child_named name cs)
    by true f true g rest = cond-true (bytes_eq other name) _ _ f
    by true f false g rest = absurd (true≢false (sym e ∙ ap (λ x. is_before x first) (sym ((bytes_eq-Decides other name).0 f)) ∙ g))
    by false f true g rest = cond-false (bytes_eq other name) _ _ f ∙ rest
    by false f false g rest = rest

child_named-not_before : (name first : List ℕ) (cs : Children) → is_before name first ≡ false → child_named name (before first cs) ≡ None
child_named-not_before name first no_children e = refl
child_named-not_before name first (child other n cs) e = by (bytes_eq other name) refl (is_before other first) refl (child_named-not_before name first cs e)
  where
    by : (b : Bool) → bytes_eq other name ≡ b → (c : Bool) → is_before other first ≡ c → child_named name (before first cs) ≡ None →
        child_named name (if c then child other n (before first cs) else before first cs) ≡ None
    by true f true g rest = absurd (true≢false (sym g ∙ ap (λ x. is_before x first) ((bytes_eq-Decides other name).0 f) ∙ e))
    by false f true g rest = cond-false (bytes_eq other name) _ _ f ∙ rest
    by b f false g rest = rest

pub child_named-behind : (name first : List ℕ) (cs : Children) → is_before first name ≡ true → child_named name (behind first cs) ≡ child_named name cs
child_named-behind name first no_children e = refl
child_named-behind name first (child other n cs) e = by (bytes_eq other name) refl (is_before first other) refl (child_named-behind name first cs e)
  where
    by : (b : Bool) → bytes_eq other name ≡ b → (c : Bool) → is_before first other ≡ c → child_named name (behind first cs) ≡ child_named name cs →
        child_named name (if c then child other n (behind first cs) else behind first cs) ≡ (if b then Some n else child_named name cs)
    by true f true g rest = cond-true (bytes_eq other name) _ _ f
    by true f false g rest = absurd (true≢false (sym e ∙ ap (is_before first) (sym ((bytes_eq-Decides other name).0 f)) ∙ g))
    by false f true g rest = cond-false (bytes_eq other name) _ _ f ∙ rest
    by false f false g rest = rest

child_named-not_behind : (name first : List ℕ) (cs : Children) → is_before first name ≡ false → child_named name (behind first cs) ≡ None
child_named-not_behind name first no_children e = refl
child_named-not_behind name first (child other n cs) e = by (bytes_eq other name) refl (is_before first other) refl (child_named-not_behind name first cs e)
  where
    by : (b : Bool) → bytes_eq other name ≡ b → (c : Bool) → is_before first other ≡ c → child_named name (behind first cs) ≡ None →
        child_named name (if c then child other n (behind first cs) else behind first cs) ≡ None
    by true f true g rest = absurd (true≢false (sym g ∙ ap (is_before first) ((bytes_eq-Decides other name).0 f) ∙ e))
    by false f true g rest = cond-false (bytes_eq other name) _ _ f ∙ rest
    by b f false g rest = rest

-- ---- what children laid over others have by name

-- what becomes of a name: the upper child over the lower one, or the lower one by itself
abbrev pub merged : Option Node → Option Node → Laying
merged None lower = found lower
merged (Some upper) lower = laid lower upper

-- what the first upper child and the others come to, by name
abbrev behind_first : List ℕ → Laying → Children → Children
behind_first first refused rest = rest
behind_first first absent rest = rest
behind_first first (there n) rest = child first n rest

-- one step by name: the first upper child, and the rest by what is known of it
merged-step : (name first : List ℕ) (lower os rest : Children) (o : Node) (laying : Laying) → (laying ≡ refused → ⊥) → laid (child_named first lower) o ≡ laying
    → is_least first os ≡ true →
    found (child_named name rest) ≡ merged (child_named name os) (child_named name (behind first lower)) →
    found (child_named name (followed_by (before first lower) (behind_first first laying rest))) ≡ merged (child_named name (child first o os))
    (child_named name lower)
merged-step name first lower os rest o laying stands is least known = by (bytes_eq first name) refl (is_before name first) refl
  where
    open_ : found (child_named name (followed_by (before first lower) (behind_first first laying rest))) ≡ found
        (or_else (child_named name (before first lower)) (child_named name (behind_first first laying rest)))
    open_ = ap found (child_named-followed_by name (before first lower) (behind_first first laying rest))

    skip : (l : Laying) → bytes_eq first name ≡ false → child_named name (behind_first first l rest) ≡ child_named name rest
    skip refused e = refl
    skip absent e = refl
    skip (there n) e = cond-false (bytes_eq first name) _ _ e

    keeps : (l : Option Node) (r : Option Node) → (l ≡ None → r ≡ None) → found (or_else l r) ≡ found l
    keeps None r e = ap found (e refl)
    keeps (Some n) r e = refl

    here : (l : Laying) → (l ≡ refused → ⊥) → bytes_eq first name ≡ true → child_named name rest ≡ None → found (child_named name (behind_first first l rest)) ≡
        l
    here refused f e none = absurd (f refl)
    here absent f e none = ap found none
    here (there n) f e none = ap found (cond-true (bytes_eq first name) _ _ e)

    by : (b : Bool) → bytes_eq first name ≡ b → (c : Bool) → is_before name first ≡ c →
        found (child_named name (followed_by (before first lower) (behind_first first laying rest))) ≡ merged (child_named name (child first o os))
        (child_named name lower)
    by true e c f =
        let same : first ≡ name = (bytes_eq-Decides first name).0 e in
        let not_before : is_before name first ≡ false = ap (is_before name) same ∙ is_before-irrefl name in
        let not_behind : is_before first name ≡ false = ap (λ x. is_before x name) same ∙ is_before-irrefl name in
        let no_other : child_named name os ≡ None = child_named-least name os (ap (λ x. is_least x os) (sym same) ∙ least) in
        let none : child_named name rest ≡ None =
        none-found (child_named name rest) (known ∙ ap (λ m. merged m (child_named name (behind first lower))) no_other ∙
        ap found (child_named-not_behind name first lower not_behind)) in
        open_ ∙ ap (λ l. found (or_else l (child_named name (behind_first first laying rest)))) (child_named-not_before name first lower not_before)
        ∙ here laying stands e none ∙ sym is ∙ ap (λ x. laid (child_named x lower) o) same
        ∙ ap (λ m. merged m (child_named name lower)) (sym (cond-true (bytes_eq first name) _ _ e))
    by false e true f =
        let not_behind : is_before first name ≡ false = is_before-asym name first f in
        let no_other : child_named name os ≡ None = child_named-least name os (is_least-before name first os f least) in
        let none : child_named name (behind_first first laying rest) ≡ None =
        skip laying e ∙ none-found (child_named name rest) (known ∙ ap (λ m. merged m (child_named name (behind first lower))) no_other ∙
        ap found (child_named-not_behind name first lower not_behind)) in
        open_ ∙ ap (λ l. found (or_else l (child_named name (behind_first first laying rest)))) (child_named-before name first lower f)
        ∙ keeps (child_named name lower) (child_named name (behind_first first laying rest)) (λ g. none)
        ∙ ap (λ m. merged m (child_named name lower)) (sym (cond-false (bytes_eq first name) _ _ e ∙ no_other))
    by false e false f =
        let is_behind : is_before first name ≡ true = is_before-total name first f (bytes_eq-swap first name e) in
        open_ ∙ ap (λ l. found (or_else l (child_named name (behind_first first laying rest)))) (child_named-not_before name first lower f)
        ∙ ap found (skip laying e) ∙ known
        ∙ ap (λ l. merged (child_named name os) l) (child_named-behind name first lower is_behind)
        ∙ ap (λ m. merged m (child_named name lower)) (sym (cond-false (bytes_eq first name) _ _ e))

-- the parts of what children come to, if they are not refused
record Parts (first : List ℕ) (lower cs : Children) (laying : Laying) (more : Option Children) : Type 0 where
  rest : Children
  stands : laying ≡ refused → ⊥
  more-is : more ≡ Some rest
  is : cs ≡ followed_by (before first lower) (behind_first first laying rest)

parts : (first : List ℕ) (lower cs : Children) (laying : Laying) (more : Option Children) → with_lower (before first lower) (with_laid first laying more) ≡
    Some cs → Parts first lower cs laying more
parts first lower cs refused more e = none-some cs e
parts first lower cs absent None e = none-some cs e
parts first lower cs absent (Some rest) e = record { rest = rest; stands = λ f. differ f; more-is = refl; is = sym (some-same _ _ e) }
  where
    differ : absent ≡ refused → ⊥
    differ f = cc
parts first lower cs (there n) None e = none-some cs e
parts first lower cs (there n) (Some rest) e = record { rest = rest; stands = λ f. differ f; more-is = refl; is = sym (some-same _ _ e) }
  where
    differ : there n ≡ refused → ⊥
    differ f = cc

pub named-laid_under : (name : List ℕ) (lower os cs : Children) → are_sound os ≡ true → laid_under lower os ≡ Some cs →
    found (child_named name cs) ≡ merged (child_named name os) (child_named name lower)
named-laid_under name lower no_children cs sound e = ap (λ ds. found (child_named name ds)) (sym (some-same lower cs e))
named-laid_under name lower (child first o os) cs sound e =
    let p = parts first lower cs (laid (child_named first lower) o) (laid_under (behind first lower) os) e in
    ap (λ ds. found (child_named name ds)) p.is
    ∙ merged-step name first lower os p.rest o (laid (child_named first lower) o) p.stands refl (is_least-rest first o os sound)
    (named-laid_under name (behind first lower) os p.rest (are_sound-rest first o os sound) p.more-is)

-- ---- nodes as maps

pub at_child-named : (cs : Children) (name : List ℕ) (path : Path) → at_child cs name path ≡ at_if (paths_if (child_named name cs)) path
at_child-named no_children name path = refl
at_child-named (child other n cs) name path = by (bytes_eq other name) (at_child-named cs name path)
  where
    by : (b : Bool) → at_child cs name path ≡ at_if (paths_if (child_named name cs)) path →
        (if b then at n path else at_child cs name path) ≡ at_if (paths_if (if b then Some n else child_named name cs)) path
    by true e = refl
    by false e = e

is_there : (n : Node) → is_some (at n []) ≡ true
is_there (node value mark cs) = refl

-- a map that is that of a node which may be there
choice-is : (f : Paths) (o : Option Node) → ((path : Path) → f path ≡ at_if (paths_if o) path) → (if is_some (f []) then Some f else None) ≡ paths_if o
choice-is f None h = cond-false (is_some (f [])) _ _ (ap is_some (h []))
choice-is f (Some n) h = cond-true (is_some (f [])) _ _ (ap is_some (h []) ∙ is_there n) ∙ ap Some (fun_ext h)

below-at : (name : List ℕ) (n : Node) → below name (at n) ≡ paths_if (child_named name (under n))
below-at name (node value mark cs) = choice-is (λ path. at_child cs name path) (child_named name cs) (λ path. at_child-named cs name path)

pub below_if-paths_if : (name : List ℕ) (lower : Option Node) → below_if name (paths_if lower) ≡ paths_if (child_named name (lower_children lower))
below_if-paths_if name None = refl
below_if-paths_if name (Some n) = below-at name n

pub root_value-paths_if : (lower : Option Node) → root_value (paths_if lower) ≡ lower_value lower
root_value-paths_if None = refl
root_value-paths_if (Some (node value mark cs)) = refl

at_if-below : (lower : Option Node) (name : List ℕ) (path : Path) → at_if (paths_if lower) (name ∷ path) ≡ at_child (lower_children lower) name path
at_if-below None name path = refl
at_if-below (Some (node value mark cs)) name path = refl

laying_at-found : (o : Option Node) (path : Path) → laying_at (found o) path ≡ at_if (paths_if o) path
laying_at-found None path = refl
laying_at-found (Some n) path = refl

abbrev pub IsPlainIf : Option Node → Type 0
IsPlainIf o = IfNode (λ n. is_plain n ≡ true) o

plain-named : (name : List ℕ) (cs : Children) → are_plain cs ≡ true → IsPlainIf (child_named name cs)
plain-named name no_children e = tt
plain-named name (child other n cs) e = by (bytes_eq other name) (plain-named name cs (right_true (is_plain n) (are_plain cs) e))
  where
    by : (b : Bool) → IsPlainIf (child_named name cs) → IsPlainIf (if b then Some n else child_named name cs)
    by true rest = left_true (is_plain n) (are_plain cs) e
    by false rest = rest

plain-children : (lower : Option Node) → IsPlainIf lower → are_plain (lower_children lower) ≡ true
plain-children None e = refl
plain-children (Some (node value mark cs)) e = right_true (is_none mark) (are_plain cs) e

pub sound-named : (name : List ℕ) (cs : Children) → are_sound cs ≡ true → IfNode (λ n. is_sound n ≡ true) (child_named name cs)
sound-named name no_children e = tt
sound-named name (child other n cs) e = by (bytes_eq other name) (sound-named name cs (are_sound-rest other n cs e))
  where
    by : (b : Bool) → IfNode (λ m. is_sound m ≡ true) (child_named name cs) → IfNode (λ m. is_sound m ≡ true) (if b then Some n else child_named name cs)
    by true rest = is_sound-first other n cs e
    by false rest = rest

-- ---- the law at a path below a name

-- what is known of the rest of a path
abbrev pub Law : Path → Type 0
Law path = (lower : Option Node) (upper : Node) → IsPlainIf lower → is_sound upper ≡ true → (laid lower upper ≡ refused → ⊥)
    → laying_at (laid lower upper) path ≡ lay (paths_if lower) (at upper) path

pub unrefused : (o : Option Node) (l : Laying) → found o ≡ l → l ≡ refused → ⊥
unrefused None l e f = differ (e ∙ f)
  where
    differ : absent ≡ refused → ⊥
    differ g = cc
unrefused (Some n) l e f = differ (e ∙ f)
  where
    differ : there n ≡ refused → ⊥
    differ g = cc

below-law : (name : List ℕ) (path : Path) → Law path → (value : Value) (mark : Option TreeMark) (lower : Option Node) (os cs : Children) → IsPlainIf lower
    → are_sound os ≡ true →
    laid_under (lower_children lower) os ≡ Some cs →
    at_child cs name path ≡ unmarked_below (at (node value mark os)) (paths_if lower) name path (λ b. lay b (λ more. at_child os name more) path)
below-law name path law value mark lower os cs plain sound e =
    at_child-named cs name path ∙ sym (laying_at-found (child_named name cs) path) ∙ ap (λ l. laying_at l path) known
    ∙ by (child_named name os) refl (sound-named name os sound)
  where
    lc : Children
    lc = lower_children lower

    known : found (child_named name cs) ≡ merged (child_named name os) (child_named name (lower_children lower))
    known = named-laid_under name (lower_children lower) os cs sound e

    by : (o : Option Node) → child_named name os ≡ o → IfNode (λ n. is_sound n ≡ true) (child_named name os)
        → laying_at (merged (child_named name os) (child_named name (lower_children lower))) path
        ≡ (if is_some (at_child os name []) then lay (below_if name (paths_if lower)) (λ more. at_child os name more) path else at_if (paths_if lower)
        (name ∷ path))
    by None is fit =
        ap (λ m. laying_at (merged m (child_named name (lower_children lower))) path) is
        ∙ laying_at-found (child_named name (lower_children lower)) path ∙ sym (at_child-named (lower_children lower) name path) ∙
        sym (at_if-below lower name path)
        ∙ sym (cond-false (is_some (at_child os name [])) _ _ (ap is_some (at_child-named os name [] ∙ ap (λ m. at_if (paths_if m) []) is)))
    by (Some o) is fit =
        let P : Option Node → Type 0 = λ m. IfNode (λ n. is_sound n ≡ true) m in
        let fits : is_sound o ≡ true = subst P is fit in
        let upper : (λ more. at_child os name more) ≡ at o = fun_ext (λ more. at_child-named os name more ∙ ap (λ m. at_if (paths_if m) more) is) in
        let stands : laid (child_named name (lower_children lower)) o ≡ refused → ⊥ =
        unrefused (child_named name cs) (laid (child_named name (lower_children lower)) o)
        (known ∙ ap (λ m. merged m (child_named name (lower_children lower))) is) in
        ap (λ m. laying_at (merged m (child_named name (lower_children lower))) path) is
        ∙ law (child_named name (lower_children lower)) o (plain-named name (lower_children lower) (plain-children lower plain)) fits stands
        ∙ ap (λ b. lay b (at o) path) (sym (below_if-paths_if name lower)) ∙ ap (λ (u : Paths). lay (below_if name (paths_if lower)) u path) (sym upper)
        ∙ sym (cond-true (is_some (at_child os name [])) _ _ (ap is_some (at_child-named os name [] ∙ ap (λ m. at_if (paths_if m) []) is) ∙ is_there o))

-- ---- the law at a root

over-root : (value : Value) (m : Option Children) → (over_children value m ≡ refused → ⊥) → laying_at (over_children value m) [] ≡ plain value
over-root value None stands = absurd (stands refl)
over-root value (Some cs) stands = refl

with-root : (value : Value) (cs : Children) → (with_value value cs ≡ refused → ⊥) → laying_at (with_value value cs) [] ≡ plain value
with-root None cs stands = absurd (stands refl)
with-root (Some text) cs stands = refl

none-mark : (mark : Option TreeMark) → is_none mark ≡ true → mark ≡ None
none-mark None e = refl
none-mark (Some m) e = absurd (true≢false (sym e))

abbrev entry_of : Value → Option TreeMark → Option Entry
entry_of value mark = Some (record { value = value; mark = mark })

-- another value at the root of a plain tree
root_with-plain : (value : Value) (n : Node) → is_plain n ≡ true → plain value ≡ root_with value (Some (at n))
root_with-plain value (node own mark cs) e = ap (entry_of value) (sym (none-mark mark (left_true (is_none mark) (are_plain cs) e)))

root-law : (lower : Option Node) (upper : Node) → IsPlainIf lower → (laid lower upper ≡ refused → ⊥) →
    laying_at (laid lower upper) [] ≡ root_by (root_mark (at upper)) (root_value (Some (at upper))) (paths_if lower)
root-law lower (node value None os) plainly stands =
    over-root (value_over value (lower_value lower)) (laid_under (lower_children lower) os) stands ∙ ap (λ v. plain (value_over value v))
    (sym (root_value-paths_if lower))
root-law lower (node value (Some Disable) os) plainly stands = refl
root-law lower (node value (Some Replace) os) plainly stands = over-root value (laid_under no_children os) stands
root-law None (node value (Some Merge) os) plainly stands = refl
root-law (Some lower) (node value (Some Merge) os) plainly stands =
    over-root (value_over value (value_of lower)) (laid_under (under lower) os) stands ∙ ap (λ v. plain (value_over value v))
    (sym (root_value-paths_if (Some lower)))
root-law None (node value (Some Add) os) plainly stands = absurd (stands refl)
root-law (Some lower) (node value (Some Add) os) plainly stands =
    with-root (sum_of (value_of lower) value) (under lower) stands
    ∙ ap (λ v. plain (sum_of v value)) (sym (root_value-paths_if (Some lower))) ∙ root_with-plain (sum_of (root_value (Some (at lower))) value) lower plainly
root-law None (node value (Some Mul) os) plainly stands = absurd (stands refl)
root-law (Some lower) (node value (Some Mul) os) plainly stands =
    with-root (product_of (value_of lower) value) (under lower) stands
    ∙ ap (λ v. plain (product_of v value)) (sym (root_value-paths_if (Some lower))) ∙ root_with-plain (product_of (root_value (Some (at lower))) value) lower
    plainly
root-law lower (node value (Some Tokens) os) plainly stands = ap (λ v. plain (Some (words_over value v))) (sym (root_value-paths_if lower))

-- ---- the law

over-below : (name : List ℕ) (path : Path) → Law path → (v value : Value) (mark : Option TreeMark) (lower : Option Node) (os : Children) → IsPlainIf lower
    → are_sound os ≡ true →
    (m : Option Children) → laid_under (lower_children lower) os ≡ m → (over_children v m ≡ refused → ⊥) →
    laying_at (over_children v m) (name ∷ path) ≡ unmarked_below (at (node value mark os)) (paths_if lower) name path
    (λ b. lay b (λ more. at_child os name more) path)
over-below name path law v value mark lower os plainly sound None e stands = absurd (stands refl)
over-below name path law v value mark lower os plainly sound (Some cs) e stands = below-law name path law value mark lower os cs plainly sound e

with-below : (name : List ℕ) (path : Path) (value : Value) (lower : Option Node) → (with_value value (lower_children lower) ≡ refused → ⊥) →
    laying_at (with_value value (lower_children lower)) (name ∷ path) ≡ at_if (paths_if lower) (name ∷ path)
with-below name path None lower stands = absurd (stands refl)
with-below name path (Some text) lower stands = sym (at_if-below lower name path)

step-law : (name : List ℕ) (path : Path) → Law path → Law (name ∷ path)
step-law name path law lower (node value None os) plainly sound stands =
    over-below name path law (value_over value (lower_value lower)) value None lower os plainly sound (laid_under (lower_children lower) os) refl stands
step-law name path law lower (node value (Some Disable) os) plainly sound stands = refl
step-law name path law lower (node value (Some Replace) os) plainly sound stands =
    over-below name path law value value (Some Replace) None os tt sound (laid_under no_children os) refl stands
step-law name path law None (node value (Some Merge) os) plainly sound stands = refl
step-law name path law (Some lower) (node value (Some Merge) os) plainly sound stands =
    over-below name path law (value_over value (value_of lower)) value (Some Merge) (Some lower) os plainly sound (laid_under (under lower) os) refl stands
step-law name path law lower (node value (Some Add) os) plainly sound stands = with-below name path (sum_of (lower_value lower) value) lower stands
step-law name path law lower (node value (Some Mul) os) plainly sound stands = with-below name path (product_of (lower_value lower) value) lower stands
step-law name path law lower (node value (Some Tokens) os) plainly sound stands = sym (at_if-below lower name path)

-- what is laid has at each path what the map says
pub lay-laid : (path : Path) → Law path
lay-laid [] lower upper plainly sound stands = root-law lower upper plainly stands
lay-laid (name ∷ path) lower upper plainly sound stands = step-law name path (lay-laid path) lower upper plainly sound stands
