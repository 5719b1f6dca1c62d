-- What is lent of what an entity sees, and what the system keeps of it.
use Rattle.sim_range.proofs.Common.{Ascend, Belongs, cond_both, Fact, fact_with, false, found_all, found_read, found_there, get_or, HoldsIfAny, id_in, ids_at}
use Rattle.sim_range.proofs.Common.{[], All, All-cons, All-filter, All-head, All-tail, All-weaker, ap, AreKept, AreReady, AreSights, AreSightsIfAny, arith}
use Rattle.sim_range.proofs.Common.{ids_of, IfSome, is_some, IsHeld, IsSome, Kind, Land, length, List, map, MatchOption, nat_lt, None, not, not_there, Note}
use Rattle.sim_range.proofs.Common.{noted, noted_held, NoteFits, Option, part_is, part_noted, placed, refl, rising, seen_among, SeesFrom, SeesWithin, Sight}
use Rattle.sim_range.proofs.Common.{sight, Sights, Some, Stands, subst, sym, true, with_only, without, ℕ, ◌<◌, ◌==◌, ◌∙◌, ◌∷◌, ◌≡◌, ◌≤◌}
use Rattle.sim_range.proofs.Watching.{long_as, map_by, read_map}

pub same_sights : (land later : Option Land) (facts after : List Fact) (old new : List Sight) → later ≡ land → after ≡ facts → length new ≡ length old
    → ((k : ℕ) (d : Sight) → ids_at new k d ≡ ids_at old k d) → AreSightsIfAny land facts old → AreSightsIfAny later after new
same_sights land later facts after old new same is along each seen l here =
    let known = seen l (sym same ∙ here) in
    let step = map_by ids_of ids_of new old along (λ i d e lt. each i d ∙ read_map ids_of ids_of old old i d e refl lt) in
    step ∙ known ∙ ap (λ (fs : List Fact). map (sight l fs) fs) (sym is)

module _ (land : Option Land) (facts : List Fact) (sights : List Sight) (held : HoldsIfAny land facts) (bare : land ≡ None → facts ≡ [])
    (seen : AreSightsIfAny land facts sights) where
  pub ascend_any : Ascend facts
  ascend_any = by land refl
    where
      by : (o : Option Land) → land ≡ o → Ascend facts
      by None e = subst Ascend (sym (bare e)) (λ k lt. absurd (omega arith))
      by (Some l) e = (held l e).held.ascending

  pub within_any : (at : ℕ) → at < length facts → at < length sights
  within_any at lt = by land refl
    where
      by : (o : Option Land) → land ≡ o → at < length sights
      by None e = absurd (omega (arith, ap (λ (fs : List Fact). length fs) (bare e)))
      by (Some l) e = omega (arith, long_as ids_of (sight l facts) sights facts (seen l e))

  pub lent_sight : (id at : ℕ) (f : Fact) (s : Sight) (ids : List ℕ) → Stands facts id at → s ≡ get_or sights at s → ids ≡ s.ids.items
      → MatchOption land ⊥ (λ (l : Land). ids ≡ seen_among l facts (fact_with facts id))
  lent_sight id at f s ids there is given = by land refl
    where
      by : (o : Option Land) → land ≡ o → MatchOption o ⊥ (λ (l : Land). ids ≡ seen_among l facts (fact_with facts id))
      by None e = absurd (omega (arith, there.within, ap (λ (fs : List Fact). length fs) (bare e)))
      by (Some l) e =
          given ∙ ap ids_of is ∙ read_map ids_of (sight l facts) sights facts at s f (seen l e) there.within
          ∙ ap (seen_among l facts) (sym (found_there facts id at f (rising facts (held l e).held.ascending) there))

-- there is something to lend
abbrev pub Sees : Option Fact → Type 0
Sees o = MatchOption o ⊥ (λ (f : Fact). IsSome f.vision)

module _ (lent facts : List Fact) (id at : ℕ) (same : lent ≡ facts) where
  pub none_there : Belongs lent id at → (false ≡ true → Sees (fact_with facts id)) × (Sees (fact_with facts id) → false ≡ true)
  none_there b =
      let missing = not_there facts id at (subst (λ (fs : List Fact). Belongs fs id at) same b) in
      ((λ e. absurd (cc)), (λ m. absurd (subst Sees (sym missing) m)))

  module _ (f : Fact) (up : Ascend facts) (s : Stands lent id at) (is : f ≡ get_or facts at f) where
    kept_there : Some f ≡ fact_with facts id
    kept_there = found_read facts id at f up (subst (λ (fs : List Fact). Stands fs id at) same s) is

    pub blind_there : is_some f.vision ≡ false → (false ≡ true → Sees (fact_with facts id)) × (Sees (fact_with facts id) → false ≡ true)
    blind_there none = ((λ e. absurd (cc)), (λ m. let has : IsSome f.vision = subst Sees (sym kept_there) m in absurd (cc)))

    pub sees_there : is_some f.vision ≡ true → (true ≡ true → Sees (fact_with facts id)) × (Sees (fact_with facts id) → true ≡ true)
    sees_there has = ((λ e. subst Sees kept_there has), (λ m. refl))

-- ---- what holds of all facts, also after a note

pub found_for : (facts : List Fact) (id : ℕ) (before after : Option Fact) → before ≡ fact_with facts id → IfSome after (λ (f : Fact). f.id ≡ id)
    → IfSome after (λ (f : Fact). before ≡ fact_with facts f.id)
found_for facts id before None found named = tt
found_for facts id before (Some f) found named = found ∙ ap (fact_with facts) (sym named)

module _ (P : Fact → Type 0) where
  pub found_is : (facts : List Fact) (id : ℕ) (o : Option Fact) → All P facts → o ≡ fact_with facts id → IfSome o P
  found_is facts id None all found = tt
  found_is facts id (Some f) all found = found_all P id facts f all (sym found)

  all_without : (id : ℕ) (facts : List Fact) → All P facts → All P (without id facts)
  all_without id facts all = All-filter (λ (f : Fact). not (f.id == id)) P facts all

  all_placed : (f : Fact) (facts : List Fact) → P f → All P facts → All P (placed f facts)
  all_placed f [] h all = All-cons P f [] h all
  all_placed f (g ∷ facts) h all =
      cond_both (nat_lt f.id g.id) (f ∷ g ∷ facts) (g ∷ placed f facts) (All P) (λ less. All-cons P f (g ∷ facts) h all)
      (λ more. All-cons P g (placed f facts) (All-head P g facts all) (all_placed f facts h (All-tail P g facts all)))

  pub all_only : (id : ℕ) (part : Option Fact) (facts : List Fact) → All P facts → IfSome part P → All P (with_only id part facts)
  all_only id None facts all h = all_without id facts all
  all_only id (Some f) facts all h = all_placed f (without id facts) h (all_without id facts all)

-- What is kept of an id is held on the land, also after a note.

pub found_held : (land : Option Land) (facts : List Fact) (id : ℕ) (o : Option Fact) → HoldsIfAny land facts → o ≡ fact_with facts id → (l : Land)
    → land ≡ Some l → IfSome o (IsHeld l)
found_held land facts id None h found l is = tt
found_held land facts id (Some f) h found l is = found_all (IsHeld l) id facts f (h l is).held.each (sym found)

pub part_held : (kind : Kind) (land : Option Land) (facts : List Fact) (note : Note) (id : ℕ) (before part : Option Fact)
    → MatchOption land ⊥ (λ (l : Land). NoteFits kind l facts note) → HoldsIfAny land facts → id ≡ id_in note → before ≡ fact_with facts id
    → part ≡ part_noted kind before note →
    (l : Land) → land ≡ Some l → IfSome part (IsHeld l)
part_held kind None facts note id before part fits h e found is l same = absurd fits
part_held kind (Some m) facts note id before part fits h e found is l same =
    let here : before ≡ fact_with facts (id_in note) = found ∙ ap (fact_with facts) e in
    let known = h m refl in
    let one : m ≡ l = cc in
    let made : part ≡ fact_with (noted kind facts note) (id_in note) = is ∙ ap (λ (o : Option Fact). part_noted kind o note) here ∙
    sym (part_is kind m facts note fits) in
    subst (λ (n : Land). IfSome part (IsHeld n)) one (by m part (noted_held m known.limits kind facts note fits known.held).each made)
  where
    by : (n : Land) (o : Option Fact) → All (IsHeld n) (noted kind facts note) → o ≡ fact_with (noted kind facts note) (id_in note) → IfSome o (IsHeld n)
    by n None all e = tt
    by n (Some f) all e = found_all (IsHeld n) (id_in note) (noted kind facts note) f all (sym e)

-- Sights that are kept, when room is made and when a note is taken up.

pub nearer : (old new : ℕ) (facts : List Fact) → new ≤ old → All (SeesFrom old) facts → All (SeesFrom new) facts
nearer old new facts less all = All-weaker (SeesFrom old) (SeesFrom new) (λ f sees raw is. let known = sees raw is in omega (arith, less, known)) facts all

pub further : (old new : ℕ) (facts : List Fact) → old ≤ new → All (SeesWithin old) facts → All (SeesWithin new) facts
further old new facts more all = All-weaker (SeesWithin old) (SeesWithin new) (λ f sees raw is. let known = sees raw is in omega (arith, more, known)) facts all

pub taken_up : (land : Option Land) (m : Land) (facts lent : List Fact) (id : ℕ) (part : Option Fact) (all : List Sight) → land ≡ Some m → lent ≡ facts
    → AreSights m (with_only id part lent) all → AreSightsIfAny land (with_only id part facts) all
taken_up land m facts lent id part all is same are l here =
    let one : m ≡ l = cc in
    subst (λ (n : Land). AreSights n (with_only id part facts) all) one (subst (λ (fs : List Fact). AreSights m (with_only id part fs) all) same are)

pub kept_along : (land later : Option Land) (facts after : List Fact) (sights : Sights) → later ≡ land → after ≡ facts → AreKept land facts sights
    → AreKept later after sights
kept_along land later facts after sights one two kept = subst (λ (m : Option Land). AreKept m after sights) (sym one)
    (subst (λ (fs : List Fact). AreKept land fs sights) (sym two) kept)

pub ready_along : (land later : Option Land) (facts after : List Fact) (id : ℕ) (before part : Option Fact) (sights : Sights) → later ≡ land → after ≡ facts
    → before ≡ fact_with facts id → AreReady land facts before part sights → AreReady later after (fact_with after id) part sights
ready_along land later facts after id before part sights one two found ready =
    subst (λ (m : Option Land). AreReady m after (fact_with after id) part sights) (sym one)
    (subst (λ (fs : List Fact). AreReady land fs (fact_with fs id) part sights) (sym two)
    (subst (λ (o : Option Fact). AreReady land facts o part sights) found ready))
