-- What is laid over a tree is refused exactly where an operation at a met path is.
use Rattle.{sim_base.proofs.Tests.{left_true, right_true}, sim_merge.proofs.ChildrenLemmas.{are_sound-rest, bytes_eq-before, is_least-rest, is_sound-first}}
use Rattle.sim_merge.proofs.Common.{absent, Add, ap, are_sound, at, at_child, at_if, before, behind, below_if, Bool, bytes_eq, bytes_eq-Decides, child}
use Rattle.sim_merge.proofs.Common.{child_named, Children, cond-false, cond-true, Disable, false, false_from_ne_true, fun_ext, HasLaid, inl, inr, is_bad}
use Rattle.sim_merge.proofs.Common.{is_before, is_layable, is_least, is_none, is_refused_at, is_resolved, is_sound, IsRefused, laid, laid_under, Laying}
use Rattle.sim_merge.proofs.Common.{laying_at, List, lower_at, lower_children, lower_value, Merge, Mul, no_children, Node, node, None, Option, over_children}
use Rattle.sim_merge.proofs.Common.{Path, Paths, paths_if, product_of, refl, refused, Replace, Some, subst, sum_of, sym, there, Tokens, true, true≢false, under}
use Rattle.sim_merge.proofs.Common.{Value, value_of, value_over, with_laid, with_lower, with_value, ℕ, ⊎_elim, [], ◌∙◌, ◌∷◌, ◌≡◌, ◌⊎◌}
use Rattle.sim_merge.proofs.{FitLemmas.{fit-is_resolved, IfNode, is_sound-layable}, PathLemmas.{at_child-named, below_if-paths_if, child_named-behind}}
use Rattle.{sim_merge.proofs.PathLemmas.{lay-laid, merged, named-laid_under, root_value-paths_if, sound-named, unrefused}, std.proofs.lemmas.Bool.and_right}

-- ---- below a name

into-named : (name : List ℕ) (path : Path) (lower : Option Node) (os : Children) (o : Node) → child_named name os ≡ Some o →
    is_refused_at (below_if name (paths_if lower)) (λ more. at_child os name more) path ≡ is_refused_at (paths_if (child_named name (lower_children lower)))
    (at o) path
into-named name path lower os o is =
    let upper : (λ more. at_child os name more) ≡ at o = fun_ext (λ more. at_child-named os name more ∙ ap (λ m. at_if (paths_if m) more) is) in
    ap (λ b. is_refused_at b (λ more. at_child os name more) path) (below_if-paths_if name lower)
    ∙ ap (λ (u : Paths). is_refused_at (paths_if (child_named name (lower_children lower))) u path) upper

-- nothing is refused where the upper tree has no such name
into-none : (name : List ℕ) (path : Path) (b : Option Paths) (os : Children) → child_named name os ≡ None → is_refused_at b (λ more. at_child os name more)
    path ≡ false
into-none name path b os is =
    and_right _ _ (ap (λ e. is_bad e (lower_at b (λ more. at_child os name more) path)) (at_child-named os name path ∙ ap (λ m. at_if (paths_if m) path) is))

under-refused : (name : List ℕ) (lower os : Children) (o : Node) → are_sound os ≡ true → child_named name os ≡ Some o → laid (child_named name lower) o ≡
    refused → laid_under lower os ≡ None
under-refused name lower os o sound is e = by (laid_under lower os) refl
  where
    by : (m : Option Children) → laid_under lower os ≡ m → laid_under lower os ≡ None
    by None f = f
    by (Some cs) f =
        absurd (unrefused (child_named name cs) (laid (child_named name lower) o) (named-laid_under name lower os cs sound f ∙
        ap (λ m. merged m (child_named name lower)) is) e)

-- ---- a refused path refuses

abbrev pub Refuses : Path → Type 0
Refuses path = (lower : Option Node) (upper : Node) → is_sound upper ≡ true → is_refused_at (paths_if lower) (at upper) path ≡ true → laid lower upper ≡ refused

no-value : (v : Value) (cs : Children) → is_none v ≡ true → with_value v cs ≡ refused
no-value None cs e = refl
no-value (Some text) cs e = absurd (true≢false (sym e))

root-refuses : (lower : Option Node) (upper : Node) → is_refused_at (paths_if lower) (at upper) [] ≡ true → laid lower upper ≡ refused
root-refuses lower (node value None os) e = absurd (true≢false (sym e))
root-refuses lower (node value (Some Disable) os) e = absurd (true≢false (sym e))
root-refuses lower (node value (Some Replace) os) e = absurd (true≢false (sym e))
root-refuses lower (node value (Some Merge) os) e = absurd (true≢false (sym e))
root-refuses lower (node value (Some Add) os) e =
    no-value (sum_of (lower_value lower) value) (lower_children lower) (ap (λ v. is_none (sum_of v value)) (sym (root_value-paths_if lower)) ∙ e)
root-refuses lower (node value (Some Mul) os) e =
    no-value (product_of (lower_value lower) value) (lower_children lower) (ap (λ v. is_none (product_of v value)) (sym (root_value-paths_if lower)) ∙ e)
root-refuses lower (node value (Some Tokens) os) e = absurd (true≢false (sym e))

below-refuses : (name : List ℕ) (path : Path) → Refuses path → (v : Value) (lower : Option Node) (os : Children) → are_sound os ≡ true →
    is_refused_at (below_if name (paths_if lower)) (λ more. at_child os name more) path ≡ true → over_children v (laid_under (lower_children lower) os) ≡
    refused
below-refuses name path refuses v lower os sound e = by (child_named name os) refl (sound-named name os sound)
  where
    by : (o : Option Node) → child_named name os ≡ o → IfNode (λ n. is_sound n ≡ true) (child_named name os)
        → over_children v (laid_under (lower_children lower) os) ≡ refused
    by None is fit = absurd (true≢false (sym e ∙ into-none name path (below_if name (paths_if lower)) os is))
    by (Some o) is fit =
        let P : Option Node → Type 0 = λ m. IfNode (λ n. is_sound n ≡ true) m in
        ap (over_children v)
        (under-refused name (lower_children lower) os o sound is
        (refuses (child_named name (lower_children lower)) o (subst P is fit) (sym (into-named name path lower os o is) ∙ e)))

step-refuses : (name : List ℕ) (path : Path) → Refuses path → Refuses (name ∷ path)
step-refuses name path refuses lower (node value None os) sound e = below-refuses name path refuses (value_over value (lower_value lower)) lower os sound e
step-refuses name path refuses lower (node value (Some Disable) os) sound e = absurd (true≢false (sym e))
step-refuses name path refuses lower (node value (Some Replace) os) sound e = below-refuses name path refuses value None os sound e
step-refuses name path refuses None (node value (Some Merge) os) sound e = absurd (true≢false (sym e))
step-refuses name path refuses (Some lower) (node value (Some Merge) os) sound e = below-refuses name path refuses (value_over value (value_of lower))
    (Some lower) os sound e
step-refuses name path refuses lower (node value (Some Add) no_children) sound e =
    absurd (true≢false (sym e ∙ into-none name path (below_if name (paths_if lower)) no_children refl))
step-refuses name path refuses lower (node value (Some Add) (child c n cs)) sound e = absurd (true≢false (sym sound))
step-refuses name path refuses lower (node value (Some Mul) no_children) sound e =
    absurd (true≢false (sym e ∙ into-none name path (below_if name (paths_if lower)) no_children refl))
step-refuses name path refuses lower (node value (Some Mul) (child c n cs)) sound e = absurd (true≢false (sym sound))
step-refuses name path refuses lower (node value (Some Tokens) no_children) sound e =
    absurd (true≢false (sym e ∙ into-none name path (below_if name (paths_if lower)) no_children refl))
step-refuses name path refuses lower (node value (Some Tokens) (child c n cs)) sound e = absurd (true≢false (sym sound))

pub refuses : (path : Path) → Refuses path
refuses [] lower upper sound e = root-refuses lower upper e
refuses (name ∷ path) lower upper sound e = step-refuses name path (refuses path) lower upper sound e

-- ---- what is refused has a refused path

abbrev pub RefusedAt : Option Node → Node → Type 0
RefusedAt lower upper = (path : Path) × (is_refused_at (paths_if lower) (at upper) path ≡ true)

record RefusedBelow (lower os : Children) : Type 0 where
  name : List ℕ
  upper : Node
  path : Path
  is : child_named name os ≡ Some upper
  refused : is_refused_at (paths_if (child_named name lower)) (at upper) path ≡ true

over-refused : (v : Value) (m : Option Children) → over_children v m ≡ refused → m ≡ None
over-refused v None e = refl
over-refused v (Some cs) e = absurd (differ (node v None cs) e)
  where
    differ : (n : Node) → there n ≡ refused → ⊥
    differ n f = cc

with-refused : (v : Value) (cs : Children) → with_value v cs ≡ refused → v ≡ None
with-refused None cs e = refl
with-refused (Some text) cs e = absurd (differ (node (Some text) None cs) e)
  where
    differ : (n : Node) → there n ≡ refused → ⊥
    differ n f = cc

not-refused : {X : Type 0} (n : Node) → there n ≡ refused → X
not-refused n e = cc

not-absent : {X : Type 0} → absent ≡ refused → X
not-absent e = cc

not-none : {X : Type 0} (cs : Children) → Some cs ≡ None → X
not-none cs e = cc

either : (first : List ℕ) (lower : Children) (laying : Laying) (more : Option Children) → with_lower (before first lower) (with_laid first laying more) ≡ None
    → (laying ≡ refused) ⊎ (more ≡ None)
either first lower refused more e = inl refl
either first lower absent None e = inr refl
either first lower absent (Some cs) e = not-none _ e
either first lower (there n) None e = inr refl
either first lower (there n) (Some cs) e = not-none _ e

least-named : (first name : List ℕ) (os : Children) (o : Node) → is_least first os ≡ true → child_named name os ≡ Some o → is_before first name ≡ true
least-named first name no_children o least is = absurd (differ is)
  where
    differ : None ≡ Some o → ⊥
    differ e = cc
least-named first name (child other n os) o least is =
    by (bytes_eq other name) refl (least-named first name os o (right_true (is_before first other) (is_least first os) least))
  where
    by : (b : Bool) → bytes_eq other name ≡ b → (child_named name os ≡ Some o → is_before first name ≡ true) → is_before first name ≡ true
    by true e rest = ap (is_before first) (sym ((bytes_eq-Decides other name).0 e)) ∙ left_true (is_before first other) (is_least first os) least
    by false e rest = rest (sym (cond-false (bytes_eq other name) _ _ e) ∙ is)

here-refused : (first : List ℕ) (o : Node) (lower os : Children) → RefusedAt (child_named first lower) o → RefusedBelow lower (child first o os)
here-refused first o lower os at_path = record {
  name = first;
  upper = o;
  path = at_path.0;
  is = cond-true (bytes_eq first first) _ _ ((bytes_eq-Decides first first).1 refl);
  refused = at_path.1;
}

later-refused : (first : List ℕ) (o : Node) (lower os : Children) → is_least first os ≡ true → RefusedBelow (behind first lower) os
    → RefusedBelow lower (child first o os)
later-refused first o lower os least b =
    let behind-it : is_before first b.name ≡ true = least-named first b.name os b.upper least b.is in
    record {
      name = b.name;
      upper = b.upper;
      path = b.path;
      is = cond-false (bytes_eq first b.name) _ _ (bytes_eq-before first b.name behind-it) ∙ b.is;
      refused = ap (λ l. is_refused_at (paths_if l) (at b.upper) b.path) (sym (child_named-behind b.name first lower behind-it)) ∙ b.refused;
    }

up : (lower : Option Node) (os : Children) (b : RefusedBelow (lower_children lower) os) → is_refused_at (below_if b.name (paths_if lower))
    (λ more. at_child os b.name more) b.path ≡ true
up lower os b = into-named b.name b.path lower os b.upper b.is ∙ b.refused

mutual
  pub refused-path : (lower : Option Node) (upper : Node) → is_sound upper ≡ true → laid lower upper ≡ refused → RefusedAt lower upper
  refused-path lower (node value None os) sound e =
      let b = refused-under (lower_children lower) os sound (over-refused (value_over value (lower_value lower)) (laid_under (lower_children lower) os) e) in
      (b.name ∷ b.path, up lower os b)
  refused-path lower (node value (Some Disable) os) sound e = not-absent e
  refused-path lower (node value (Some Replace) os) sound e =
      let b = refused-under no_children os sound (over-refused value (laid_under no_children os) e) in (b.name ∷ b.path, up None os b)
  refused-path None (node value (Some Merge) os) sound e = not-absent e
  refused-path (Some lower) (node value (Some Merge) os) sound e =
      let b = refused-under (under lower) os sound (over-refused (value_over value (value_of lower)) (laid_under (under lower) os) e) in
      (b.name ∷ b.path, up (Some lower) os b)
  refused-path lower (node value (Some Add) os) sound e = (
    [],
    ap (λ v. is_none (sum_of v value)) (root_value-paths_if lower) ∙
        ap is_none (with-refused (sum_of (lower_value lower) value) (lower_children lower) e),
  )
  refused-path lower (node value (Some Mul) os) sound e = (
    [],
    ap (λ v. is_none (product_of v value)) (root_value-paths_if lower) ∙
        ap is_none (with-refused (product_of (lower_value lower) value) (lower_children lower) e),
  )
  refused-path lower (node value (Some Tokens) os) sound e = not-refused _ e

  refused-under : (lower os : Children) → are_sound os ≡ true → laid_under lower os ≡ None → RefusedBelow lower os
  refused-under lower no_children sound e = not-none lower e
  refused-under lower (child first o os) sound e =
      ⊎_elim (λ f. here-refused first o lower os (refused-path (child_named first lower) o (is_sound-first first o os sound) f))
      (λ f. later-refused first o lower os (is_least-rest first o os sound) (refused-under (behind first lower) os (are_sound-rest first o os sound) f))
      (either first lower (laid (child_named first lower) o) (laid_under (behind first lower) os) e)

-- ---- the law of overlays

pub has-laid : (lower upper n : Node) → is_resolved lower ≡ true → is_layable upper ≡ true → laid (Some lower) upper ≡ there n → HasLaid lower upper n
has-laid lower upper n resolved layable e = record {
  laid = λ path. ap (λ l. laying_at l path) (sym e)
      ∙ lay-laid path (Some lower) upper (fit-is_resolved lower resolved).plain (is_sound-layable upper layable) (λ f. not-refused n (sym e ∙ f));
  met = λ path. false_from_ne_true _ (λ f. not-refused n (sym e ∙ refuses path (Some lower) upper (is_sound-layable upper layable) f));
}

pub is-refused : (lower upper : Node) → is_layable upper ≡ true → laid (Some lower) upper ≡ refused → IsRefused lower upper
is-refused lower upper layable e = refused-path (Some lower) upper (is_sound-layable upper layable) e
