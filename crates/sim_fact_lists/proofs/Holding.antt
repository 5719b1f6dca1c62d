-- The facts that a system holds stay such.
use Rattle.sim_fact_lists.proofs.Common.{aim_of, Aimed, All, All-cons, All-head, All-nil, All-tail, ap, AreHeld, AreInRange, arith, Ascend, Bool, Born, Census}
use Rattle.sim_fact_lists.proofs.Common.{cond, cond_both, cons_option, Err, Fact, fact_with, false, Gone, Ground, Holds, HoldsIfAny, id_in, IfSome, is_inside}
use Rattle.sim_fact_lists.proofs.Common.{IsHeld, IsInRange, IsLand, IsRawFrom, IsSome, IsTrue, keeps, kept, kept_of, Kind, Land, length, List, MatchOption}
use Rattle.sim_fact_lists.proofs.Common.{Moved, nat_lt, None, not, Note, noted, NoteFits, Ok, OnErr, OnOk, Option, origin, Owned, part_for, part_noted, placed}
use Rattle.sim_fact_lists.proofs.Common.{Range, refl, Result, size_of, Some, subst, sym, true, Watch, with_changed, with_kept, with_only, without, ℕ, ℤ, []}
use Rattle.sim_fact_lists.proofs.{Common.{◌==◌, ◌∙◌, ◌∷◌, ◌≡◌, ◌≤◌}, OneFact.{ascends, found_id, noted_is, noted_only, part_named, rising, rising_kept}}

module _ (land : Land) (limits : IsLand land) where
  origin_inside : IsTrue (is_inside (size_of land) origin)
  origin_inside = grind (arith, limits.width.0, limits.depth.0)

  sees : (o : Option ℤ) → IfSome o (IsRawFrom 0 16777216) → (raw : ℤ) → o ≡ Some raw → IsRawFrom 0 16777216 raw
  sees None h raw e = absurd (cc)
  sees (Some vision) h raw e = let same : vision ≡ raw = cc in subst (IsRawFrom 0 16777216) same h

  part_held : (kind : Kind) (fact : Fact) → IsInRange land fact → IsHeld land (part_for kind fact)
  part_held Ground fact h = record { at = origin_inside; owner = omega (arith, limits.players.0); vision = λ raw e. absurd (cc) }
  part_held Range fact h = record { at = h.at; owner = h.owner; vision = sees fact.vision h.vision }
  part_held Watch fact h = record { at = origin_inside; owner = omega (arith, limits.players.0); vision = λ raw e. absurd (cc) }
  part_held Census fact h = record { at = origin_inside; owner = h.owner; vision = λ raw e. absurd (cc) }

  kept_held : (kind : Kind) (fact : Fact) → IsInRange land fact → IfSome (kept kind fact) (IsHeld land)
  kept_held kind fact h = by (keeps kind fact)
    where
      by : (b : Bool) → IfSome (cond b (Some (part_for kind fact)) None) (IsHeld land)
      by true = part_held kind fact h
      by false = tt

  -- ---- a list of facts

  all_held : (kind : Kind) (facts : List Fact) → All (IsInRange land) facts → All (IsHeld land) (kept_of kind facts)
  all_held kind [] all = All-nil (IsHeld land)
  all_held kind (fact ∷ facts) all = by (kept kind fact) (kept_held kind fact (All-head (IsInRange land) fact facts all))
      (all_held kind facts (All-tail (IsInRange land) fact facts all))
    where
      by : (o : Option Fact) → IfSome o (IsHeld land) → All (IsHeld land) (kept_of kind facts) → All (IsHeld land) (cons_option o (kept_of kind facts))
      by None h rest = rest
      by (Some f) h rest = All-cons (IsHeld land) f (kept_of kind facts) h rest

  kept_of-length : (kind : Kind) (facts : List Fact) → length (kept_of kind facts) ≤ length facts
  kept_of-length kind [] = omega arith
  kept_of-length kind (fact ∷ facts) = by (kept kind fact) (kept_of-length kind facts)
    where
      by : (o : Option Fact) → length (kept_of kind facts) ≤ length facts → length (cons_option o (kept_of kind facts)) ≤ length (fact ∷ facts)
      by None h = omega arith
      by (Some f) h = omega arith

  pub rebuilt_held : (kind : Kind) (facts : List Fact) → AreInRange land facts → AreHeld land (kept_of kind facts)
  rebuilt_held kind facts h = record {
    few = omega (arith, kept_of-length kind facts, h.few);
    ascending = ascends (kept_of kind facts) (rising_kept kind facts (rising facts h.ascending));
    each = all_held kind facts h.each;
  }

  placed_held : (f : Fact) (facts : List Fact) → IsHeld land f → All (IsHeld land) facts → All (IsHeld land) (placed f facts)
  placed_held f [] h all = All-cons (IsHeld land) f [] h all
  placed_held f (g ∷ facts) h all =
      cond_both (nat_lt f.id g.id) (f ∷ g ∷ facts) (g ∷ placed f facts) (All (IsHeld land)) (λ less. All-cons (IsHeld land) f (g ∷ facts) h all)
      (λ more. All-cons (IsHeld land) g (placed f facts) (All-head (IsHeld land) g facts all) (placed_held f facts h (All-tail (IsHeld land) g facts all)))

  with_kept_held : (o : Option Fact) (facts : List Fact) → IfSome o (IsHeld land) → All (IsHeld land) facts → All (IsHeld land) (with_kept o facts)
  with_kept_held None facts h all = all
  with_kept_held (Some f) facts h all = placed_held f facts h all

  without_held : (id : ℕ) (facts : List Fact) → All (IsHeld land) facts → All (IsHeld land) (without id facts)
  without_held id [] all = all
  without_held id (f ∷ facts) all = by (not (f.id == id)) (without_held id facts (All-tail (IsHeld land) f facts all))
    where
      by : (b : Bool) → All (IsHeld land) (without id facts) → All (IsHeld land) (cond b (f ∷ without id facts) (without id facts))
      by true rest = All-cons (IsHeld land) f (without id facts) (All-head (IsHeld land) f facts all) rest
      by false rest = rest

  changed_held : (id : ℕ) (changed : Fact → Fact) (facts : List Fact) → ((f : Fact) → IsHeld land f → IsHeld land (changed f)) → All (IsHeld land) facts
      → All (IsHeld land) (with_changed id changed facts)
  changed_held id changed [] each all = all
  changed_held id changed (f ∷ facts) each all =
      let h = All-head (IsHeld land) f facts all in
      All-cons (IsHeld land) (cond (f.id == id) (changed f) f) (with_changed id changed facts)
      (cond_both (f.id == id) (changed f) f (IsHeld land) (λ same. each f h) (λ other. h))
      (changed_held id changed facts each (All-tail (IsHeld land) f facts all))

  each_held : (kind : Kind) (facts : List Fact) (note : Note) → NoteFits kind land facts note → All (IsHeld land) facts
      → All (IsHeld land) (noted kind facts note)
  each_held kind facts (Born fact) fits all = with_kept_held (kept kind fact) facts (kept_held kind fact fits.agrees.0) all
  each_held kind facts (Gone fact) fits all = without_held fact.id facts all
  each_held Ground facts (Moved id from to) fits all = all
  each_held Range facts (Moved id from to) fits all = changed_held id (λ (f : Fact). record f { at = to }) facts
      (λ f h. record { at = fits.agrees.1; owner = h.owner; vision = h.vision }) all
  each_held Watch facts (Moved id from to) fits all = all
  each_held Census facts (Moved id from to) fits all = all
  each_held Ground facts (Owned id from to) fits all = all
  each_held Range facts (Owned id from to) fits all = changed_held id (λ (f : Fact). record f { owner = to }) facts
      (λ f h. record { at = h.at; owner = fits.agrees.1; vision = h.vision }) all
  each_held Watch facts (Owned id from to) fits all = all
  each_held Census facts (Owned id from to) fits all = changed_held id (λ (f : Fact). record f { owner = to }) facts
      (λ f h. record { at = h.at; owner = fits.agrees.1; vision = h.vision }) all
  each_held Ground facts (Aimed id from to) fits all = all
  each_held Range facts (Aimed id from to) fits all = all
  each_held Watch facts (Aimed id from to) fits all = with_kept_held (kept Watch (aim_of id to)) (without id facts) (aim_held id to) (without_held id facts all)
    where
      aim_held : (id to : ℕ) → IfSome (kept Watch (aim_of id to)) (IsHeld land)
      aim_held id to = by (not (to == 0))
        where
          by : (b : Bool) → IfSome (cond b (Some (part_for Watch (aim_of id to))) None) (IsHeld land)
          by true = record { at = origin_inside; owner = omega (arith, limits.players.0); vision = λ raw e. absurd (cc) }
          by false = tt
  each_held Census facts (Aimed id from to) fits all = all

  pub noted_held : (kind : Kind) (facts : List Fact) (note : Note) → NoteFits kind land facts note → AreHeld land facts → AreHeld land (noted kind facts note)
  noted_held kind facts note fits h = record {
    few = fits.few;
    ascending = ascends (noted kind facts note) (noted_only kind land facts note (rising facts h.ascending) fits).later;
    each = each_held kind facts note fits h.each;
  }

-- what is held ascends
pub held_ascend : (land : Option Land) (facts : List Fact) → HoldsIfAny land facts → IsSome land → Ascend facts
held_ascend None facts h some = absurd (cc)
held_ascend (Some l) facts h some = (h l refl).held.ascending

-- after a note that may not have been taken up, whatever the land
pub still_held : {E : Type 0} (r : Result (Unit {0}) E) (kind : Kind) (land : Option Land) (facts after : List Fact) (note : Note)
    → MatchOption land ⊥ (λ (l : Land). NoteFits kind l facts note) → HoldsIfAny land facts →
    OnOk r (after ≡ noted kind facts note) → OnErr r (after ≡ facts) → HoldsIfAny land after
still_held r kind None facts after note fits h ok err l same = absurd fits
still_held (Ok u) kind (Some land) facts after note fits h is err l same =
    let known = h land refl in
    let one : land ≡ l = cc in
    subst (λ (m : Land). Holds m after) one
    (subst (Holds land) (sym is) (record { limits = known.limits; held = noted_held land known.limits kind facts note fits known.held }))
still_held (Err e) kind (Some land) facts after note fits h ok is l same = subst (Holds l) (sym is) (h l same)

-- after a rebuild
pub newly_held : (kind : Kind) (land copied : Land) (facts after : List Fact) → IsLand land → AreInRange land facts → copied ≡ land → after ≡ kept_of kind facts
    → HoldsIfAny (Some copied) after
newly_held kind land copied facts after limits h copy is l same =
    let one : land ≡ l = cc in
    subst (λ (m : Land). Holds m after) one (subst (Holds land) (sym is) (record { limits = limits; held = rebuilt_held land limits kind facts h }))

-- where there is a land, it is within its limits and the facts are held on it
pub holds_where : (land : Option Land) (facts : List Fact) (P : Land → Type 0) → HoldsIfAny land facts → MatchOption land ⊥ P → (l : Land) × (land ≡ Some l)
    × Holds l facts × P l
holds_where None facts P h p = absurd p
holds_where (Some l) facts P h p = (l, refl, h l refl, p)

-- ---- a note, by what is put in place of its id

pub has_land : (land : Option Land) (P : Land → Type 0) → MatchOption land ⊥ P → IsSome land
has_land None P h = absurd h
has_land (Some l) P h = refl

pub put_named : (kind : Kind) (facts : List Fact) (note : Note) (id : ℕ) (old part : Option Fact) → id ≡ id_in note → old ≡ fact_with facts id
    → part ≡ part_noted kind old note → IfSome part (λ (f : Fact). f.id ≡ id)
put_named kind facts note id old part e found is =
    subst (λ (o : Option Fact). IfSome o (λ (f : Fact). f.id ≡ id)) (sym is) (part_named kind id old note e (λ f has. found_id id facts f (sym found ∙ has)))

pub put_is : (kind : Kind) (land : Option Land) (facts : List Fact) (note : Note) (id : ℕ) (old part : Option Fact)
    → MatchOption land ⊥ (λ (l : Land). NoteFits kind l facts note) → HoldsIfAny land facts →
    id ≡ id_in note → old ≡ fact_with facts id → part ≡ part_noted kind old note → with_only id part facts ≡ noted kind facts note
put_is kind None facts note id old part fits h e found is = absurd fits
put_is kind (Some l) facts note id old part fits h e found is =
    let here : old ≡ fact_with facts (id_in note) = found ∙ ap (fact_with facts) e in
    let made : part ≡ part_noted kind (fact_with facts (id_in note)) note = is ∙ ap (λ (o : Option Fact). part_noted kind o note) here in
    ap (λ (o : Option Fact). with_only id o facts) made ∙ ap (λ (n : ℕ). with_only n (part_noted kind (fact_with facts (id_in note)) note) facts) e
    ∙ noted_is kind l facts note (rising facts (h l refl).held.ascending) fits
