-- A sound tree laid over a resolved one is resolved: it ascends by name, has no marks, and has no more levels.
use Rattle.{sim_base.proofs.Tests.{left_true, right_true}, sim_merge.proofs.ChildrenLemmas.{are_sound-rest, is_least-before, is_least-rest, is_sound-first}}
use Rattle.sim_merge.proofs.Common.{absent, Add, are_plain, are_sound, arith, bears, before, behind, Bool, bytes_eq, chain_root, child, child_named, Children}
use Rattle.sim_merge.proofs.Common.{Disable, false, followed_by, if◌then◌else◌, inherited, is_before, is_layable, is_least, is_none, is_plain, is_resolved}
use Rattle.sim_merge.proofs.Common.{is_sound, laid, laid_under, laid_unmarked, Laying, levels, levels_under, List, list_all, lower_children, lower_value}
use Rattle.sim_merge.proofs.Common.{mark_of, Merge, Mul, nat_le, no_children, Node, node, None, Option, over_children, product_of, refl, refused, Replace}
use Rattle.sim_merge.proofs.Common.{slice_get, Some, subst, suc, sum_of, sym, there, Tokens, TreeMark, true, true≢false, under, Value, value_of, value_over}
use Rattle.sim_merge.proofs.Common.{with_laid, with_lower, with_value, words_over, zero, ℕ, [], ◌&&◌, ◌∙◌, ◌∷◌, ◌≡◌, ◌≤◌}
use Rattle.std.proofs.lemmas.Bool.{and_from, le-leb, leb-true}

-- ---- what a resolved tree meets, with so many levels at most

pub record IsFit (k : ℕ) (n : Node) : Type 0 where
  pub sound : is_sound n ≡ true
  pub plain : is_plain n ≡ true
  pub few : levels n ≤ k

pub record AreFit (k : ℕ) (cs : Children) : Type 0 where
  pub sound : are_sound cs ≡ true
  pub plain : are_plain cs ≡ true
  pub few : levels_under cs ≤ k

abbrev pub IfNode : (Node → Type 0) → Option Node → Type 0
IfNode P None = Unit {0}
IfNode P (Some n) = P n

abbrev pub IfThere : (Node → Type 0) → Laying → Type 0
IfThere P refused = Unit {0}
IfThere P absent = Unit {0}
IfThere P (there n) = P n

-- children that are fit, and stand behind each name that the others stand behind
pub record AreLaid (k : ℕ) (lower os cs : Children) : Type 0 where
  pub fit : AreFit k cs
  pub least : (x : List ℕ) → is_least x lower ≡ true → is_least x os ≡ true → is_least x cs ≡ true

abbrev pub IfLaid : ℕ → Children → Children → Option Children → Type 0
IfLaid k lower os None = Unit {0}
IfLaid k lower os (Some cs) = AreLaid k lower os cs

abbrev all_before : List ℕ → Children → Bool
all_before name no_children = true
all_before name (child other n cs) = is_before other name && all_before name cs

pub none_fit : (k : ℕ) → AreFit k no_children
none_fit k = record { sound = refl; plain = refl; few = omega arith }

-- ---- nodes and their children

pub fit-node : (k : ℕ) (value : Value) (cs : Children) → AreFit k cs → IsFit (suc k) (node value None cs)
fit-node k value cs fit = record { sound = fit.sound; plain = fit.plain; few = omega (arith, fit.few) }

fit-under-node : (k : ℕ) (n : Node) → IsFit (suc k) n → AreFit k (under n)
fit-under-node k (node value mark cs) fit = record {
  sound = right_true (bears mark value cs) (are_sound cs) fit.sound;
  plain = right_true _ (are_plain cs) fit.plain;
  few = omega (arith, fit.few);
}

fit-lower : (k : ℕ) (lower : Option Node) → IfNode (IsFit (suc k)) lower → AreFit k (lower_children lower)
fit-lower k None fit = none_fit k
fit-lower k (Some n) fit = fit-under-node k n fit

fit-first : (k : ℕ) (name : List ℕ) (n : Node) (cs : Children) → AreFit k (child name n cs) → IsFit k n
fit-first k name n cs fit = record {
  sound = is_sound-first name n cs fit.sound;
  plain = left_true (is_plain n) (are_plain cs) fit.plain;
  few = omega (arith, fit.few);
}

fit-rest : (k : ℕ) (name : List ℕ) (n : Node) (cs : Children) → AreFit k (child name n cs) → AreFit k cs
fit-rest k name n cs fit = record {
  sound = are_sound-rest name n cs fit.sound;
  plain = right_true (is_plain n) (are_plain cs) fit.plain;
  few = omega (arith, fit.few);
}

fit-child : (k : ℕ) (name : List ℕ) (n : Node) (cs : Children) → IsFit k n → AreFit k cs → is_least name cs ≡ true → AreFit k (child name n cs)
fit-child k name n cs fit rest least = record {
  sound = and_from (is_least name cs) (is_sound n && are_sound cs) least (and_from (is_sound n) (are_sound cs) fit.sound rest.sound);
  plain = and_from (is_plain n) (are_plain cs) fit.plain rest.plain;
  few = omega (arith, fit.few, rest.few);
}

-- ---- the children before and behind a name

-- a fact of both choices holds of the choice
if-cases : {X : Type 0} (P : X → Type 0) (b : Bool) (x y : X) → (b ≡ true → P x) → (b ≡ false → P y) → P (if b then x else y)
if-cases P true x y first second = first refl
if-cases P false x y first second = second refl

is_least-before-name : (x name : List ℕ) (cs : Children) → is_least x cs ≡ true → is_least x (before name cs) ≡ true
is_least-before-name x name no_children least = refl
is_least-before-name x name (child other n cs) least =
    let rest = is_least-before-name x name cs (right_true (is_before x other) (is_least x cs) least) in
    if-cases (λ ds. is_least x ds ≡ true) (is_before other name) _ _
    (λ e. and_from (is_before x other) (is_least x (before name cs)) (left_true (is_before x other) (is_least x cs) least) rest) (λ e. rest)

is_least-behind-name : (x name : List ℕ) (cs : Children) → is_least x cs ≡ true → is_least x (behind name cs) ≡ true
is_least-behind-name x name no_children least = refl
is_least-behind-name x name (child other n cs) least =
    let rest = is_least-behind-name x name cs (right_true (is_before x other) (is_least x cs) least) in
    if-cases (λ ds. is_least x ds ≡ true) (is_before name other) _ _
    (λ e. and_from (is_before x other) (is_least x (behind name cs)) (left_true (is_before x other) (is_least x cs) least) rest) (λ e. rest)

fit-before : (k : ℕ) (name : List ℕ) (cs : Children) → AreFit k cs → AreFit k (before name cs)
fit-before k name no_children fit = fit
fit-before k name (child other n cs) fit =
    let rest = fit-before k name cs (fit-rest k other n cs fit) in
    if-cases (AreFit k) (is_before other name) _ _
    (λ e. fit-child k other n (before name cs) (fit-first k other n cs fit) rest (is_least-before-name other name cs (is_least-rest other n cs fit.sound)))
    (λ e. rest)

fit-behind : (k : ℕ) (name : List ℕ) (cs : Children) → AreFit k cs → AreFit k (behind name cs)
fit-behind k name no_children fit = fit
fit-behind k name (child other n cs) fit =
    let rest = fit-behind k name cs (fit-rest k other n cs fit) in
    if-cases (AreFit k) (is_before name other) _ _
    (λ e. fit-child k other n (behind name cs) (fit-first k other n cs fit) rest (is_least-behind-name other name cs (is_least-rest other n cs fit.sound)))
    (λ e. rest)

all_before-before : (name : List ℕ) (cs : Children) → all_before name (before name cs) ≡ true
all_before-before name no_children = refl
all_before-before name (child other n cs) =
    let rest = all_before-before name cs in
    if-cases (λ ds. all_before name ds ≡ true) (is_before other name) _ _
    (λ e. and_from (is_before other name) (all_before name (before name cs)) e rest) (λ e. rest)

is_least-behind : (name : List ℕ) (cs : Children) → is_least name (behind name cs) ≡ true
is_least-behind name no_children = refl
is_least-behind name (child other n cs) =
    let rest = is_least-behind name cs in
    if-cases (λ ds. is_least name ds ≡ true) (is_before name other) _ _
    (λ e. and_from (is_before name other) (is_least name (behind name cs)) e rest) (λ e. rest)

fit-named : (k : ℕ) (name : List ℕ) (cs : Children) → AreFit k cs → IfNode (IsFit k) (child_named name cs)
fit-named k name no_children fit = tt
fit-named k name (child other n cs) fit =
    let rest = fit-named k name cs (fit-rest k other n cs fit) in
    if-cases (IfNode (IsFit k)) (bytes_eq other name) _ _ (λ e. fit-first k other n cs fit) (λ e. rest)

-- ---- one behind another

is_least-followed_by : (x : List ℕ) (xs ys : Children) → is_least x xs ≡ true → is_least x ys ≡ true → is_least x (followed_by xs ys) ≡ true
is_least-followed_by x no_children ys e f = f
is_least-followed_by x (child other n xs) ys e f =
    and_from (is_before x other) (is_least x (followed_by xs ys)) (left_true (is_before x other) (is_least x xs) e)
    (is_least-followed_by x xs ys (right_true (is_before x other) (is_least x xs) e) f)

fit-followed_by : (k : ℕ) (name : List ℕ) (xs ys : Children) → AreFit k xs → all_before name xs ≡ true → AreFit k ys →
    ((x : List ℕ) → is_before x name ≡ true → is_least x ys ≡ true) → AreFit k (followed_by xs ys)
fit-followed_by k name no_children ys fit less rest least = rest
fit-followed_by k name (child other n xs) ys fit less rest least =
    fit-child k other n (followed_by xs ys) (fit-first k other n xs fit)
    (fit-followed_by k name xs ys (fit-rest k other n xs fit) (right_true (is_before other name) (all_before name xs) less) rest least)
    (is_least-followed_by other xs ys (is_least-rest other n xs fit.sound) (least other (left_true (is_before other name) (all_before name xs) less)))

-- ---- a step of an overlay

step : (k : ℕ) (name : List ℕ) (lower os : Children) (o : Node) (laying : Laying) (more : Option Children) → AreFit k lower → is_least name os ≡ true →
    IfThere (IsFit k) laying → IfLaid k (behind name lower) os more
    → IfLaid k lower (child name o os) (with_lower (before name lower) (with_laid name laying more))
step k name lower os o refused more fit ahead here rest = tt
step k name lower os o absent None fit ahead here rest = tt
step k name lower os o absent (Some cs) fit ahead here rest = record {
  fit = fit-followed_by k name (before name lower) cs (fit-before k name lower fit) (all_before-before name lower) rest.fit
      (λ x e. is_least-before x name cs e (rest.least name (is_least-behind name lower) ahead));
  least = λ x e f. is_least-followed_by x (before name lower) cs (is_least-before-name x name lower e)
      (rest.least x (is_least-behind-name x name lower e) (right_true (is_before x name) (is_least x os) f));
}
step k name lower os o (there n) None fit ahead here rest = tt
step k name lower os o (there n) (Some cs) fit ahead here rest =
    let least_here : is_least name cs ≡ true = rest.least name (is_least-behind name lower) ahead in
    record {
      fit = fit-followed_by k name (before name lower) (child name n cs) (fit-before k name lower fit) (all_before-before name lower)
          (fit-child k name n cs here rest.fit least_here)
          (λ x e. and_from (is_before x name) (is_least x cs) e (is_least-before x name cs e least_here));
      least = λ x e f. is_least-followed_by x (before name lower) (child name n cs) (is_least-before-name x name lower e)
          (and_from (is_before x name) (is_least x cs) (left_true (is_before x name) (is_least x os) f)
          (rest.least x (is_least-behind-name x name lower e) (right_true (is_before x name) (is_least x os) f)));
    }

over-fit : (k : ℕ) (value : Value) (lower os : Children) (laying : Option Children) → IfLaid k lower os laying
    → IfThere (IsFit (suc k)) (over_children value laying)
over-fit k value lower os None fit = tt
over-fit k value lower os (Some cs) fit = fit-node k value cs fit.fit

with-fit : (k : ℕ) (value : Value) (cs : Children) → AreFit k cs → IfThere (IsFit (suc k)) (with_value value cs)
with-fit k None cs fit = tt
with-fit k (Some text) cs fit = fit-node k (Some text) cs fit

mutual
  pub fit-laid : (k : ℕ) (lower : Option Node) (upper : Node) → IfNode (IsFit k) lower → is_sound upper ≡ true → levels upper ≤ k
      → IfThere (IsFit k) (laid lower upper)
  fit-laid zero lower (node value mark os) fit sound few = absurd (omega (arith, few))
  fit-laid (suc k) lower (node value None os) fit sound few =
      over-fit k (value_over value (lower_value lower)) (lower_children lower) os (laid_under (lower_children lower) os)
      (fit-laid_under k (lower_children lower) os (fit-lower k lower fit) sound (omega (arith, few)))
  fit-laid (suc k) lower (node value (Some Disable) os) fit sound few = tt
  fit-laid (suc k) lower (node value (Some Replace) os) fit sound few =
      over-fit k value no_children os (laid_under no_children os) (fit-laid_under k no_children os (none_fit k) sound (omega (arith, few)))
  fit-laid (suc k) None (node value (Some Merge) os) fit sound few = tt
  fit-laid (suc k) (Some lower) (node value (Some Merge) os) fit sound few =
      over-fit k (value_over value (value_of lower)) (under lower) os (laid_under (under lower) os)
      (fit-laid_under k (under lower) os (fit-under-node k lower fit) sound (omega (arith, few)))
  fit-laid (suc k) lower (node value (Some Add) os) fit sound few = with-fit k (sum_of (lower_value lower) value) (lower_children lower) (fit-lower k lower fit)
  fit-laid (suc k) lower (node value (Some Mul) os) fit sound few = with-fit k (product_of (lower_value lower) value) (lower_children lower)
      (fit-lower k lower fit)
  fit-laid (suc k) lower (node value (Some Tokens) os) fit sound few = fit-node k (Some (words_over value (lower_value lower))) (lower_children lower)
      (fit-lower k lower fit)

  pub fit-laid_under : (k : ℕ) (lower os : Children) → AreFit k lower → are_sound os ≡ true → levels_under os ≤ k → IfLaid k lower os (laid_under lower os)
  fit-laid_under k lower no_children fit sound few = record { fit = fit; least = λ x e f. e }
  fit-laid_under k lower (child name o os) fit sound few =
      step k name lower os o (laid (child_named name lower) o) (laid_under (behind name lower) os) fit (is_least-rest name o os sound)
      (fit-laid k (child_named name lower) o (fit-named k name lower fit) (is_sound-first name o os sound) (omega (arith, few)))
      (fit-laid_under k (behind name lower) os (fit-behind k name lower fit) (are_sound-rest name o os sound) (omega (arith, few)))

-- Trees of a library, and trees that may be laid over them.

pub fit-is_resolved : (n : Node) → is_resolved n ≡ true → IsFit 32 n
fit-is_resolved n e =
    let rest = right_true (is_sound n) (is_plain n && nat_le (levels n) 32) e in
    record {
      sound = left_true (is_sound n) (is_plain n && nat_le (levels n) 32) e;
      plain = left_true (is_plain n) (nat_le (levels n) 32) rest;
      few = leb-true (levels n) 32 (right_true (is_plain n) (nat_le (levels n) 32) rest);
    }

is_resolved-fit : (n : Node) → IsFit 32 n → is_resolved n ≡ true
is_resolved-fit n fit =
    and_from (is_sound n) (is_plain n && nat_le (levels n) 32) fit.sound
    (and_from (is_plain n) (nat_le (levels n) 32) fit.plain (le-leb (levels n) 32 fit.few))

pub is_sound-layable : (n : Node) → is_layable n ≡ true → is_sound n ≡ true
is_sound-layable n e = left_true (is_sound n) (is_none (mark_of n) && nat_le (levels n) 32) e

none-is_none : (mark : Option TreeMark) → is_none mark ≡ true → mark ≡ None
none-is_none None e = refl
none-is_none (Some mark) e = absurd (true≢false (sym e))

pub mark_of-layable : (n : Node) → is_layable n ≡ true → mark_of n ≡ None
mark_of-layable n e =
    none-is_none (mark_of n) (left_true (is_none (mark_of n)) (nat_le (levels n) 32) (right_true (is_sound n) (is_none (mark_of n) && nat_le (levels n) 32) e))

levels-layable : (n : Node) → is_layable n ≡ true → levels n ≤ 32
levels-layable n e =
    leb-true (levels n) 32 (right_true (is_none (mark_of n)) (nat_le (levels n) 32) (right_true (is_sound n) (is_none (mark_of n) && nat_le (levels n) 32) e))

abbrev pub IsGood : Node → Type 0
IsGood n = is_resolved n ≡ true

weaker : (laying : Laying) → IfThere (IsFit 32) laying → IfThere IsGood laying
weaker refused fit = tt
weaker absent fit = tt
weaker (there n) fit = is_resolved-fit n fit

-- what is laid over a resolved tree is resolved
pub laid-resolved : (lower upper : Node) → is_resolved lower ≡ true → is_layable upper ≡ true → IfThere IsGood (laid (Some lower) upper)
laid-resolved lower upper e f = weaker (laid (Some lower) upper) (fit-laid 32 (Some lower) upper (fit-is_resolved lower e) (is_sound-layable upper f)
    (levels-layable upper f))

pub there-resolved : (laying : Laying) (n : Node) → laying ≡ there n → IfThere IsGood laying → is_resolved n ≡ true
there-resolved laying n e good = let P : Laying → Type 0 = λ l. IfThere IsGood l in subst P e good

-- an upper node without a mark
laid-by_mark : (lower : Option Node) (upper : Node) (mark : Option TreeMark) → mark_of upper ≡ mark → mark ≡ None → laid lower upper ≡ laid_unmarked lower upper
laid-by_mark lower (node value None os) mark e f = refl
laid-by_mark lower (node value (Some m) os) mark e f = absurd (differ m (e ∙ f))
  where
    differ : (m : TreeMark) → Some m ≡ None → ⊥
    differ m e = cc

pub laid-unmarked : (lower : Option Node) (upper : Node) → mark_of upper ≡ None → laid lower upper ≡ laid_unmarked lower upper
laid-unmarked lower upper e = laid-by_mark lower upper None e refl

-- ---- the tree of a chain

pub if-all : (p : Node → Bool) (roots : List Node) (number : ℕ) → list_all p roots ≡ true → IfNode (λ n. p n ≡ true) (slice_get roots number)
if-all p [] number all = tt
if-all p (root ∷ roots) zero all = left_true (p root) (list_all p roots) all
if-all p (root ∷ roots) (suc number) all = if-all p roots number (right_true (p root) (list_all p roots) all)

inherited-resolved : (lower : Laying) (own : Option Node) → IfThere IsGood lower → IfNode (λ n. is_layable n ≡ true) own → IfThere IsGood (inherited lower own)
inherited-resolved refused own good layable = tt
inherited-resolved absent own good layable = tt
inherited-resolved (there lower) None good layable = tt
inherited-resolved (there lower) (Some own) good layable = laid-resolved lower own good layable

pub chain_root-resolved : (roots : List Node) (chain : List ℕ) → list_all is_layable roots ≡ true → IfThere IsGood (chain_root roots chain)
chain_root-resolved roots [] all = refl
chain_root-resolved roots (number ∷ chain) all =
    inherited-resolved (chain_root roots chain) (slice_get roots number) (chain_root-resolved roots chain all) (if-all is_layable roots number all)
