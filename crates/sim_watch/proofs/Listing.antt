-- A list of entities and their targets: where one stands, and what the list stands for after an edit there.
use Rattle.sim_fact_lists.proofs.OneFact.{Above, above_kept, after_is, ascends, found_put, missing_above, without_missing}
use Rattle.sim_fact_lists.{proofs.Standing.{found_there, missing_there, nothing_new, put_new, put_nothing, put_over, rises}, specs.Changes.{Belongs, Stands}}
use Rattle.sim_system.specs.{declared.kind.Kind.Kind, Notes.without}
use Rattle.sim_watch.proofs.Common.{aim_of, Aimer, ap, arith, Ascend, Bool, cond, cons_option, Err, Fact, fact_with, facts_in, false, id_of_fact, kept, kept_id}
use Rattle.sim_watch.proofs.Common.{kept_of, List, map, missing_found, None, not, Ok, Option, option_and_then, refl, replaced, Result, Rising, rising}
use Rattle.sim_watch.{proofs.Common.{rising_kept, Some, subst, sym, take, told_in, true, Watch, with_only, ℕ, [], ◌==◌, ◌∙◌, ◌∷◌, ◌≡◌}, specs.Aimers.aim_in}
use Rattle.std.proofs.{Common.{get_or, inl, inr, length, set, suc, zero, ◌<◌, ◌≤◌}, lemmas.{Bool.{cases_lt, Decides.nat_tests, eqb-true}, Cmp.ranked}}
use Rattle.std.{proofs.lemmas.List.{get_or-map, length-map, map-set, take_all}, specs.List.{insert, remove, Sorted.{IsBinarySearchResult, IsNonDecreasingBy}}}
use Rattle.std.specs.{List.Sorted.{IsSearchInRange, IsStrictlyIncreasing}, Ordering.{nat_cmp, ordering_index}, Prelude.{is_ok, IsOk, MatchResult}}

-- What is kept of a list of facts of which one is replaced.

-- what is kept of an id is what is kept of its fact
pub found_kept : (kind : Kind) (id : ℕ) (facts : List Fact) → Rising facts → fact_with (kept_of kind facts) id ≡ option_and_then (kept kind)
    (fact_with facts id)
found_kept kind id [] r = refl
found_kept kind id (f ∷ facts) r = by (kept kind f) (f.id == id) refl refl (kept_id kind f) (found_kept kind id facts r.1)
  where
    gone : (f.id == id) ≡ true → fact_with (kept_of kind facts) id ≡ None
    gone e = missing_found id (kept_of kind facts)
        (missing_above id (kept_of kind facts) (above_kept kind id facts (subst (λ (n : ℕ). Above n facts) (eqb-true f.id id e) r.0)))

    by : (o : Option Fact) (b : Bool) → kept kind f ≡ o → (f.id == id) ≡ b → ((p : Fact) → o ≡ Some p → p.id ≡ f.id) → fact_with (kept_of kind facts) id ≡
        option_and_then (kept kind) (fact_with facts id) →
        fact_with (cons_option o (kept_of kind facts)) id ≡ option_and_then (kept kind) (cond b (Some f) (fact_with facts id))
    by None true k e named rest = gone e ∙ sym k
    by None false k e named rest = rest
    by (Some p) true k e named rest = let here : (p.id == id) ≡ true = ap (λ (n : ℕ). n == id) (named p refl) ∙ e in rw here (sym k)
    by (Some p) false k e named rest = let here : (p.id == id) ≡ false = ap (λ (n : ℕ). n == id) (named p refl) ∙ e in rw here rest

-- an id is taken out before or after
without_kept : (kind : Kind) (id : ℕ) (facts : List Fact) → kept_of kind (without id facts) ≡ without id (kept_of kind facts)
without_kept kind id [] = refl
without_kept kind id (f ∷ facts) = by (kept kind f) (f.id == id) refl refl (kept_id kind f) (without_kept kind id facts)
  where
    by : (o : Option Fact) (b : Bool) → kept kind f ≡ o → (f.id == id) ≡ b → ((p : Fact) → o ≡ Some p → p.id ≡ f.id) → kept_of kind (without id facts) ≡
        without id (kept_of kind facts) →
        kept_of kind (cond (not b) (f ∷ without id facts) (without id facts)) ≡ without id (cons_option o (kept_of kind facts))
    by None true k e named rest = rest
    by None false k e named rest = ap (λ (o : Option Fact). cons_option o (kept_of kind (without id facts))) k ∙ rest
    by (Some p) true k e named rest = let here : (p.id == id) ≡ true = ap (λ (n : ℕ). n == id) (named p refl) ∙ e in rw here rest
    by (Some p) false k e named rest =
        let here : (p.id == id) ≡ false = ap (λ (n : ℕ). n == id) (named p refl) ∙ e in
        rw here (ap (λ (o : Option Fact). cons_option o (kept_of kind (without id facts))) k ∙ ap (λ (fs : List Fact). p ∷ fs) rest)

-- where one fact is replaced, what is kept of it is
pub kept_only : (kind : Kind) (id : ℕ) (o : Option Fact) (facts : List Fact) → ((f : Fact) → o ≡ Some f → f.id ≡ id) → Rising facts
    → kept_of kind (with_only id o facts) ≡ with_only id (option_and_then (kept kind) o) (kept_of kind facts)
kept_only kind id o facts named r =
    let only = replaced id o facts named r in
    let there : fact_with (kept_of kind (with_only id o facts)) id ≡ option_and_then (kept kind) o =
    found_kept kind id (with_only id o facts) only.later ∙ ap (option_and_then (kept kind))
    (found_put id o (without id facts) named (without_missing id facts)) in
    sym
    (ap (λ (p : Option Fact). with_only id p (kept_of kind facts)) (sym there)
    ∙ after_is id (kept_of kind facts) (kept_of kind (with_only id o facts)) (record {
      before = rising_kept kind facts r;
      later = rising_kept kind (with_only id o facts) only.later;
      same = sym (without_kept kind id (with_only id o facts)) ∙ ap (kept_of kind) only.same ∙ without_kept kind id facts;
    }))

-- stands for an entity past the end
abbrev nobody : Aimer
nobody = record { id = 0; target = 0 }

told_at : (aimers : List Aimer) (k : ℕ) (a : Aimer) (d : Fact) → k < length aimers → get_or (told_in aimers) k d ≡ aim_in (get_or aimers k a)
told_at aimers k a d lt = get_or-map aim_in aimers k a d lt

as_many : (aimers : List Aimer) → length (told_in aimers) ≡ length aimers
as_many aimers = length-map aimers aim_in

-- ---- where an entity stands

pub stands_by : (aimers : List Aimer) (id at : ℕ) (a : Aimer) → at < length aimers → a ≡ get_or aimers at a → a.id ≡ id → Stands (told_in aimers) id at
stands_by aimers id at a lt is same = record {
  within = omega (arith, lt, as_many aimers);
  same = λ d. ap id_of_fact (told_at aimers at a d lt) ∙ sym (ap (λ (b : Aimer). b.id) is) ∙ same;
}

rise : (aimers : List Aimer) (i j : ℕ) (a : Aimer) → Ascend (told_in aimers) → i < j → j < length aimers → (get_or aimers i a).id < (get_or aimers j a).id
rise aimers i j a up before lt =
    let h = rises (told_in aimers) i j (aim_in a) (rising (told_in aimers) up) before (omega (arith, lt, as_many aimers)) in
    let one = ap id_of_fact (told_at aimers i a (aim_in a) (omega arith)) in
    let other = ap id_of_fact (told_at aimers j a (aim_in a) lt) in
    omega (arith, h, one, other)

comparisons_rise : (aimers : List Aimer) (id : ℕ) → Ascend (told_in aimers) → IsNonDecreasingBy (λ (a : Aimer). ordering_index (nat_cmp a.id id)) aimers
comparisons_rise aimers id up i j d le lt =
    elim (cases_lt i j) [
      | inl before ↦ (let h = rise aimers i j d up before lt in grind (arith, nat_tests))
      | inr same ↦ (let e : i ≡ j = omega arith in rw e (omega arith))
    ]

pub place_by : (aimers : List Aimer) (id : ℕ) (r : Result ℕ ℕ) → Ascend (told_in aimers) → IsSearchInRange r (length aimers)
    → IsBinarySearchResult (λ (a : Aimer). nat_cmp a.id id) aimers r → MatchResult r (Stands (told_in aimers) id) (Belongs (told_in aimers) id)
place_by aimers id (Ok at) up within there = record {
  within = omega (arith, within, as_many aimers);
  same = λ d. ap id_of_fact (told_at aimers at nobody d within) ∙ ranked _ id _ (sym (there nobody));
}
place_by aimers id (Err at) up within parted =
    let parts = parted (comparisons_rise aimers id up) in
    record {
      within = omega (arith, within, as_many aimers);
      before = λ k d lt.
          let low : k < length aimers = omega (arith, lt, within) in
          let less : (get_or aimers k nobody).id < id = ranked _ id _ (sym (parts.0 k nobody (omega arith) lt)) in
          let is = ap id_of_fact (told_at aimers k nobody d low) in
          omega (arith, less, is);
      behind = λ k d le lt.
          let low : k < length aimers = omega (arith, lt, as_many aimers) in
          let more : id < (get_or aimers k nobody).id = ranked _ id _ (sym (parts.1 k nobody le low)) in
          let is = ap id_of_fact (told_at aimers k nobody d low) in
          omega (arith, more, is);
    }

-- ---- the target of an entity

pub target_there : (aimers : List Aimer) (id at : ℕ) (a : Aimer) → Ascend (told_in aimers) → Stands (told_in aimers) id at → a ≡ get_or aimers at a
    → fact_with (facts_in aimers) id ≡ kept Watch (aim_of id a.target)
target_there aimers id at a up s is =
    let r = rising (told_in aimers) up in
    let lt : at < length aimers = omega (arith, s.within, as_many aimers) in
    let there : get_or (told_in aimers) at (aim_in a) ≡ aim_in a = told_at aimers at a (aim_in a) lt ∙ ap aim_in (sym is) in
    let named : a.id ≡ id = sym (ap id_of_fact there) ∙ s.same (aim_in a) in
    found_kept Watch id (told_in aimers) r ∙ ap (option_and_then (kept Watch)) (found_there (told_in aimers) id at (aim_in a) r s ∙ ap Some there) ∙
    ap (λ (n : ℕ). kept Watch (aim_of n a.target)) named

pub no_target : (aimers : List Aimer) (id at : ℕ) → Ascend (told_in aimers) → Belongs (told_in aimers) id at → fact_with (facts_in aimers) id ≡ None
no_target aimers id at up b = found_kept Watch id (told_in aimers) (rising (told_in aimers) up) ∙ ap (option_and_then (kept Watch))
    (missing_found id (told_in aimers) (missing_there (told_in aimers) id at b))

-- ---- an edit

map_insert : (aimers : List Aimer) (at : ℕ) (a : Aimer) → told_in (insert aimers at a) ≡ insert (told_in aimers) at (aim_in a)
map_insert [] zero a = refl
map_insert [] (suc at) a = refl
map_insert (b ∷ aimers) zero a = refl
map_insert (b ∷ aimers) (suc at) a = ap (λ (fs : List Fact). aim_in b ∷ fs) (map_insert aimers at a)

map_remove : (aimers : List Aimer) (at : ℕ) → told_in (remove aimers at) ≡ remove (told_in aimers) at
map_remove [] zero = refl
map_remove [] (suc at) = refl
map_remove (b ∷ aimers) zero = refl
map_remove (b ∷ aimers) (suc at) = ap (λ (fs : List Fact). aim_in b ∷ fs) (map_remove aimers at)

-- what is told of one entity is replaced
pub record IsEdit (aimers after : List Aimer) (id : ℕ) (o : Option Fact) : Type 0 where
  pub ascend : Ascend (told_in after)
  pub told : told_in after ≡ with_only id o (told_in aimers)

module _ (aimers : List Aimer) (id target at : ℕ) (up : Ascend (told_in aimers)) where
  abbrev aiming : Aimer
  aiming = record { id = id; target = target }

  edit : (after : List Aimer) (o : Option Fact) → ((f : Fact) → o ≡ Some f → f.id ≡ id) → told_in after ≡ with_only id o (told_in aimers)
      → IsEdit aimers after id o
  edit after o named is = record {
    ascend = subst Ascend (sym is) (ascends (with_only id o (told_in aimers)) ((replaced id o (told_in aimers) named (rising (told_in aimers) up)).later));
    told = is;
  }

  named : (f : Fact) → Some (aim_of id target) ≡ Some f → f.id ≡ id
  named f e = let same : aim_of id target ≡ f = cc in sym (ap id_of_fact same)

  pub aimed_there : Stands (told_in aimers) id at → IsEdit aimers (set aimers at aiming) id (Some (aim_of id target))
  aimed_there s = edit (set aimers at aiming) (Some (aim_of id target)) named (map-set aim_in aimers at aiming ∙ put_over (told_in aimers) (told_in aimers)
      id at (Some (aim_of id target)) (aim_of id target) refl up s refl refl)

  pub aimed_new : Belongs (told_in aimers) id at → IsEdit aimers (insert aimers at aiming) id (Some (aim_of id target))
  aimed_new b = edit (insert aimers at aiming) (Some (aim_of id target)) named (map_insert aimers at aiming ∙ put_new (told_in aimers) (told_in aimers)
      id at (Some (aim_of id target)) (aim_of id target) refl b refl refl)

  pub left_there : Stands (told_in aimers) id at → IsEdit aimers (remove aimers at) id None
  left_there s = edit (remove aimers at) None (λ f e. absurd (cc)) (map_remove aimers at ∙ put_nothing (told_in aimers) (told_in aimers) id at None refl up s
      refl)

  pub left_none : Belongs (told_in aimers) id at → IsEdit aimers aimers id None
  left_none b = edit aimers None (λ f e. absurd (cc)) (nothing_new (told_in aimers) (told_in aimers) id at None refl b refl)

  -- what is kept after it
  pub facts_aimed : (after : List Aimer) → IsEdit aimers after id (Some (aim_of id target)) → facts_in after ≡ with_only id (kept Watch (aim_of id target))
      (facts_in aimers)
  facts_aimed after e = ap (kept_of Watch) e.told ∙ kept_only Watch id (Some (aim_of id target)) (told_in aimers) named (rising (told_in aimers) up)

  pub facts_left : (after : List Aimer) → IsEdit aimers after id None → facts_in after ≡ with_only id None (facts_in aimers)
  facts_left after e = ap (kept_of Watch) e.told ∙ kept_only Watch id None (told_in aimers) (λ f h. absurd (cc)) (rising (told_in aimers) up)

pub if_ok : {V E : Type 0} {X : Type 0} (r : Result V E) (xs ys new : List X) → IsOk r → new ≡ cond (is_ok r) xs ys → new ≡ xs
if_ok (Ok v) xs ys new ok is = is
if_ok (Err e) xs ys new ok is = absurd (cc)

-- ---- all facts of a state

-- the id and the target of a fact
abbrev pub aimer_of : Fact → Aimer
aimer_of fact = record { id = fact.id; target = fact.target }

ids_of : (facts : List Fact) → map id_of_fact (told_in (map aimer_of facts)) ≡ map id_of_fact facts
ids_of [] = refl
ids_of (f ∷ facts) = ap (λ (ids : List ℕ). f.id ∷ ids) (ids_of facts)

kept_alike : (facts : List Fact) → facts_in (map aimer_of facts) ≡ kept_of Watch facts
kept_alike [] = refl
kept_alike (f ∷ facts) = ap (cons_option (kept Watch f)) (kept_alike facts)

whole : (facts : List Fact) (all : List Aimer) (n : ℕ) → all ≡ map aimer_of (take n facts) → length facts ≤ n → all ≡ map aimer_of facts
whole facts all n is le = is ∙ ap (map aimer_of) (take_all n facts le)

pub listed_ascend : (facts : List Fact) (all : List Aimer) (n : ℕ) → Ascend facts → all ≡ map aimer_of (take n facts) → length facts ≤ n → Ascend (told_in all)
listed_ascend facts all n up is le =
    subst IsStrictlyIncreasing (sym (ap (λ (aimers : List Aimer). map id_of_fact (told_in aimers)) (whole facts all n is le) ∙ ids_of facts)) up

pub listed_facts : (facts : List Fact) (all : List Aimer) (n : ℕ) → all ≡ map aimer_of (take n facts) → length facts ≤ n → facts_in all ≡ kept_of Watch facts
listed_facts facts all n is le = ap facts_in (whole facts all n is le) ∙ kept_alike facts
