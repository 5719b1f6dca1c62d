-- The place of a fact by its id: what stands there, and what an edit there makes of the list.
use Rattle.sim_fact_lists.proofs.Common.{IsBinarySearchResult, IsNonDecreasingBy, IsSearchInRange, length, List, MatchResult, nat_cmp, nat_tests, ne_eqb, None}
use Rattle.sim_fact_lists.proofs.Common.{Ok, Option, ordering_index, placed, ranked, refl, remove, Result, set, Some, Stands, subst, suc, sym, true}
use Rattle.sim_fact_lists.proofs.Common.{[], ap, arith, Ascend, Belongs, cases_lt, eq-eqb, Err, Fact, fact_with, false, get_or, IfSome, inl, inr, insert}
use Rattle.sim_fact_lists.proofs.Common.{with_changed, with_only, without, zero, ℕ, ◌<◌, ◌==◌, ◌∙◌, ◌∷◌, ◌≡◌}
use Rattle.sim_fact_lists.proofs.OneFact.{Above, above_at, Missing, missing_above, missing_changed, missing_found, missing_without, placed_first, Rising}
use Rattle.{sim_fact_lists.proofs.OneFact.rising, sim_system.proofs.Facts.placed_behind}

-- ---- what a search by halves answers

pub rises : (facts : List Fact) (i j : ℕ) (d : Fact) → Rising facts → i < j → j < length facts → (get_or facts i d).id < (get_or facts j d).id
rises [] i j d r before lt = absurd (omega arith)
rises (f ∷ facts) i zero d r before lt = absurd (omega arith)
rises (f ∷ facts) zero (suc j) d r before lt = above_at f.id facts j d r.0 (omega arith)
rises (f ∷ facts) (suc i) (suc j) d r before lt = rises facts i j d r.1 (omega arith) (omega arith)

comparisons_rise : (facts : List Fact) (id : ℕ) → Rising facts → IsNonDecreasingBy (λ (fact : Fact). ordering_index (nat_cmp fact.id id)) facts
comparisons_rise facts id r i j d le lt =
    elim (cases_lt i j) [
      | inl before ↦ (let h = rises facts i j d r before lt in grind (arith, nat_tests))
      | inr same ↦ (let e : i ≡ j = omega arith in rw e (omega arith))
    ]

pub place_by : (facts : List Fact) (id : ℕ) (r : Result ℕ ℕ) → Ascend facts → IsSearchInRange r (length facts)
    → IsBinarySearchResult (λ (fact : Fact). nat_cmp fact.id id) facts r → MatchResult r (Stands facts id) (Belongs facts id)
place_by facts id (Ok at) up within there = record { within = within; same = λ d. ranked _ id _ (sym (there d)) }
place_by facts id (Err at) up within parted =
    let parts = parted (comparisons_rise facts id (rising facts up)) in
    record {
      within = within;
      before = λ k d lt. ranked _ id _ (sym (parts.0 k d (omega arith) lt));
      behind = λ k d le lt. ranked _ id _ (sym (parts.1 k d le lt));
    }

-- ---- where the fact stands

next_stands : (f : Fact) (facts : List Fact) (id at : ℕ) → Stands (f ∷ facts) id (suc at) → Stands facts id at
next_stands f facts id at s = record { within = omega (arith, s.within); same = λ d. s.same d }

first_is : (f : Fact) (facts : List Fact) (id : ℕ) → Stands (f ∷ facts) id zero → (f.id == id) ≡ true
first_is f facts id s = eq-eqb f.id id (s.same f)

first_is_not : (f : Fact) (facts : List Fact) (id at : ℕ) → Rising (f ∷ facts) → Stands (f ∷ facts) id (suc at) → (f.id == id) ≡ false
first_is_not f facts id at r s =
    let there : (get_or facts at f).id ≡ id = s.same f in
    let above : f.id < (get_or facts at f).id = above_at f.id facts at f r.0 (omega (arith, s.within)) in
    ne_eqb f.id id (λ e. omega arith)

rest_missing : (f : Fact) (facts : List Fact) (id : ℕ) → Rising (f ∷ facts) → Stands (f ∷ facts) id zero → Missing id facts
rest_missing f facts id r s = missing_above id facts (subst (λ (n : ℕ). Above n facts) (s.same f) r.0)

pub found_there : (facts : List Fact) (id at : ℕ) (d : Fact) → Rising facts → Stands facts id at → fact_with facts id ≡ Some (get_or facts at d)
found_there [] id at d r s = absurd (omega (arith, s.within))
found_there (f ∷ facts) id zero d r s = let here = first_is f facts id s in rw here refl
found_there (f ∷ facts) id (suc at) d r s = let other = first_is_not f facts id at r s in rw other (found_there facts id at d r.1 (next_stands f facts id at s))

pub removed_there : (facts : List Fact) (id at : ℕ) → Rising facts → Stands facts id at → remove facts at ≡ without id facts
removed_there [] id at r s = absurd (omega (arith, s.within))
removed_there (f ∷ facts) id zero r s = let here = first_is f facts id s in rw here (sym (missing_without id facts (rest_missing f facts id r s)))
removed_there (f ∷ facts) id (suc at) r s = let other = first_is_not f facts id at r s in
    rw other (ap (λ (fs : List Fact). f ∷ fs) (removed_there facts id at r.1 (next_stands f facts id at s)))

pub changed_there : (facts : List Fact) (id at : ℕ) (h : Fact → Fact) (d : Fact) → Rising facts → Stands facts id at → set facts at (h (get_or facts at d)) ≡
    with_changed id h facts
changed_there [] id at h d r s = absurd (omega (arith, s.within))
changed_there (f ∷ facts) id zero h d r s = let here = first_is f facts id s in
    rw here (ap (λ (fs : List Fact). h f ∷ fs) (sym (missing_changed id h facts (rest_missing f facts id r s))))
changed_there (f ∷ facts) id (suc at) h d r s = let other = first_is_not f facts id at r s in
    rw other (ap (λ (fs : List Fact). f ∷ fs) (changed_there facts id at h d r.1 (next_stands f facts id at s)))

-- ---- where it belongs

next_belongs : (f : Fact) (facts : List Fact) (id at : ℕ) → Belongs (f ∷ facts) id (suc at) → Belongs facts id at
next_belongs f facts id at b = record {
  within = omega (arith, b.within);
  before = λ k d lt. b.before (suc k) d (omega arith);
  behind = λ k d le lt. b.behind (suc k) d (omega arith) (omega arith);
}

all_above : (facts : List Fact) (id : ℕ) → Belongs facts id zero → Above id facts
all_above [] id b = tt
all_above (f ∷ facts) id b = (
  b.behind zero f (omega arith) (omega arith),
  all_above facts id (record {
    within = omega arith;
    before = λ k d lt. absurd (omega arith);
    behind = λ k d le lt. b.behind (suc k) d (omega arith) (omega arith);
  }),
)

pub missing_there : (facts : List Fact) (id at : ℕ) → Belongs facts id at → Missing id facts
missing_there [] id at b = tt
missing_there (f ∷ facts) id zero b = missing_above id (f ∷ facts) (all_above (f ∷ facts) id b)
missing_there (f ∷ facts) id (suc at) b = let first : f.id < id = b.before zero f (omega arith) in
    ((λ e. omega arith), missing_there facts id at (next_belongs f facts id at b))

pub inserted_there : (facts : List Fact) (f : Fact) (at : ℕ) → Belongs facts f.id at → insert facts at f ≡ placed f facts
inserted_there [] f zero b = refl
inserted_there [] f (suc at) b = absurd (omega (arith, b.within))
inserted_there (g ∷ facts) f zero b = sym (placed_first f (g ∷ facts) (all_above (g ∷ facts) f.id b))
inserted_there (g ∷ facts) f (suc at) b =
    ap (λ (fs : List Fact). g ∷ fs) (inserted_there facts f at (next_belongs g facts f.id at b)) ∙ sym (placed_behind f g facts (b.before zero g (omega arith)))

-- ---- all that is kept of one id, put there

pub set_there : (facts : List Fact) (f : Fact) (at : ℕ) → Rising facts → Stands facts f.id at → set facts at f ≡ placed f (without f.id facts)
set_there [] f at r s = absurd (omega (arith, s.within))
set_there (g ∷ facts) f zero r s =
    let here = first_is g facts f.id s in
    let stays = missing_without f.id facts (rest_missing g facts f.id r s) in
    let above : Above f.id facts = subst (λ (n : ℕ). Above n facts) (s.same g) r.0 in
    rw here (sym (ap (placed f) stays ∙ placed_first f facts above))
set_there (g ∷ facts) f (suc at) r s =
    let other = first_is_not g facts f.id at r s in
    let there : (get_or facts at g).id ≡ f.id = s.same g in
    let above : g.id < (get_or facts at g).id = above_at g.id facts at g r.0 (omega (arith, s.within)) in
    rw other (ap (λ (fs : List Fact). g ∷ fs) (set_there facts f at r.1 (next_stands g facts f.id at s)) ∙
    sym (placed_behind f g (without f.id facts) (omega arith)))

pub inserted_only : (facts : List Fact) (f : Fact) (at : ℕ) → Belongs facts f.id at → insert facts at f ≡ placed f (without f.id facts)
inserted_only facts f at b = inserted_there facts f at b ∙ sym (ap (placed f) (missing_without f.id facts (missing_there facts f.id at b)))

pub absent_there : (facts : List Fact) (id at : ℕ) → Belongs facts id at → facts ≡ without id facts
absent_there facts id at b = sym (missing_without id facts (missing_there facts id at b))

-- ---- the same where the list is lent, and the part is matched

pub put_over : (lent facts : List Fact) (id at : ℕ) (o : Option Fact) (f : Fact) → lent ≡ facts → Ascend facts → Stands lent id at → o ≡ Some f
    → IfSome o (λ (g : Fact). g.id ≡ id) → set facts at f ≡ with_only id o facts
put_over lent facts id at None f is up s e named = absurd (cc)
put_over lent facts id at (Some g) f is up s e named =
    let same : g ≡ f = cc in
    let here : Stands facts g.id at = subst (λ (n : ℕ). Stands facts n at) (sym named) (subst (λ (fs : List Fact). Stands fs id at) is s) in
    ap (set facts at) (sym same) ∙ set_there facts g at (rising facts up) here ∙ ap (λ (n : ℕ). placed g (without n facts)) named

pub put_nothing : (lent facts : List Fact) (id at : ℕ) (o : Option Fact) → lent ≡ facts → Ascend facts → Stands lent id at → o ≡ None
    → remove facts at ≡ with_only id o facts
put_nothing lent facts id at None is up s e = removed_there facts id at (rising facts up) (subst (λ (fs : List Fact). Stands fs id at) is s)
put_nothing lent facts id at (Some g) is up s e = absurd (cc)

pub put_new : (lent facts : List Fact) (id at : ℕ) (o : Option Fact) (f : Fact) → lent ≡ facts → Belongs lent id at → o ≡ Some f
    → IfSome o (λ (g : Fact). g.id ≡ id) → insert facts at f ≡ with_only id o facts
put_new lent facts id at None f is b e named = absurd (cc)
put_new lent facts id at (Some g) f is b e named =
    let same : g ≡ f = cc in
    let here : Belongs facts g.id at = subst (λ (n : ℕ). Belongs facts n at) (sym named) (subst (λ (fs : List Fact). Belongs fs id at) is b) in
    ap (insert facts at) (sym same) ∙ inserted_only facts g at here ∙ ap (λ (n : ℕ). placed g (without n facts)) named

pub nothing_new : (lent facts : List Fact) (id at : ℕ) (o : Option Fact) → lent ≡ facts → Belongs lent id at → o ≡ None → facts ≡ with_only id o facts
nothing_new lent facts id at None is b e = absent_there facts id at (subst (λ (fs : List Fact). Belongs fs id at) is b)
nothing_new lent facts id at (Some g) is b e = absurd (cc)

-- the fact that is read there is found
pub found_read : (facts : List Fact) (id at : ℕ) (f : Fact) → Ascend facts → Stands facts id at → f ≡ get_or facts at f → Some f ≡ fact_with facts id
found_read facts id at f up s is = ap Some is ∙ sym (found_there facts id at f (rising facts up) s)

pub not_there : (facts : List Fact) (id at : ℕ) → Belongs facts id at → None ≡ fact_with facts id
not_there facts id at b = sym (missing_found id facts (missing_there facts id at b))
