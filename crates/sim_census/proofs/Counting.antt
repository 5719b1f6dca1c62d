-- The numbers before and after a note.
use Rattle.{sim_base.specs.{declared.setup.Land.Land, Limits.IsLand}, sim_census.specs.Owners.{AreCounts, is_owned_by}}
use Rattle.sim_fact_lists.proofs.OneFact.{count_after, found_all, noted_only, OnlyAt, part_is, rising}
use Rattle.sim_fact_lists.specs.Changes.{Holds, HoldsIfAny, id_in, IsHeld, one_if, part_noted, passes}
use Rattle.sim_system.specs.declared.{ask.{Answer.TheVariants.Number, Ask.{Ask, TheVariants.Count}}, fact.Fact.Fact, kind.Kind.TheVariants.Census}
use Rattle.sim_system.specs.{declared.note.Note.Note, Meanings.{answer, population_among}, Notes.{fact_with, kept_of, noted, NoteFits, part_for}}
use Rattle.std.proofs.Common.{All, ap, arith, Bool, cond, false, get_or, inl, inr, length, List, None, Option, refl, Some, subst, sym, true, ℕ, [], ◌+◌, ◌<◌}
use Rattle.std.proofs.{Common.{◌∙◌, ◌∷◌, ◌≡◌, ◌≤◌}, lemmas.{Bool.{cases_lt, eq-eqb, ne_eqb}, List.{Elements.{All-head, All-tail, All-weaker}, get_or_past}}}
use Rattle.std.{proofs.lemmas.List.Sums.{count_by-le-length, sum_by-cons}, specs.Prelude.{count_by, IfSome, MatchOption, ◌==◌}}

tally : (p : Fact → Bool) (f : Fact) (facts : List Fact) → count_by p (f ∷ facts) ≡ one_if (p f) + count_by p facts
tally p f facts = sum_by-cons (λ (g : Fact). one_if (p g)) f facts

-- what is kept of entities has as many of each owner
same_population : (facts : List Fact) (owner : ℕ) → population_among (kept_of Census facts) owner ≡ population_among facts owner
same_population [] owner = refl
same_population (f ∷ facts) owner =
    tally (is_owned_by owner) (part_for Census f) (kept_of Census facts) ∙ ap (λ (n : ℕ). one_if (f.owner == owner) + n) (same_population facts owner)
    ∙ sym (tally (is_owned_by owner) f facts)

pub kept_counts : (facts after : List Fact) (counts : List ℕ) → after ≡ kept_of Census facts → AreCounts facts counts → AreCounts after counts
kept_counts facts after counts is are owner lt =
    are owner lt ∙ sym (same_population facts owner) ∙ ap (λ (fs : List Fact). population_among fs owner) (sym is)

-- a fact that is found is of one of the nine owners
found_owner : (l : Land) (facts : List Fact) (id : ℕ) (f : Fact) → Holds l facts → fact_with facts id ≡ Some f → f.owner < 9
found_owner l facts id f h e = let held = found_all (IsHeld l) id facts f h.held.each e in omega (arith, held.owner, h.limits.players.1)

pub owner_known : (land : Option Land) (P : Land → Type 0) (facts : List Fact) (id : ℕ) (o : Option Fact) → MatchOption land ⊥ P → HoldsIfAny land facts
    → o ≡ fact_with facts id → IfSome o (λ (f : Fact). f.owner < 9)
owner_known None P facts id o fits h e = absurd fits
owner_known (Some l) P facts id None fits h e = tt
owner_known (Some l) P facts id (Some f) fits h e = found_owner l facts id f (h l refl) (sym e)

-- and there is one of its owner
one_at_least : (facts : List Fact) (id : ℕ) (f : Fact) → fact_with facts id ≡ Some f → 0 < population_among facts f.owner
one_at_least [] id f e = absurd (cc)
one_at_least (g ∷ facts) id f e = by (g.id == id) e (one_at_least facts id f)
  where
    more : population_among (g ∷ facts) f.owner ≡ one_if (g.owner == f.owner) + population_among facts f.owner
    more = tally (is_owned_by f.owner) g facts

    by : (b : Bool) → cond b (Some g) (fact_with facts id) ≡ Some f → (fact_with facts id ≡ Some f → 0 < population_among facts f.owner)
        → 0 < population_among (g ∷ facts) f.owner
    by true s rest =
        let same : g ≡ f = cc in
        let here : (g.owner == f.owner) ≡ true = eq-eqb g.owner f.owner (ap (λ (h : Fact). h.owner) same) in
        let one : one_if (g.owner == f.owner) ≡ one_if true = ap one_if here in
        omega (arith, more, one)
    by false s rest = omega (arith, more, rest s)

pub is_counted : (land : Option Land) (P : Land → Type 0) (facts : List Fact) (counts : List ℕ) (id : ℕ) (o : Option Fact) → MatchOption land ⊥ P
    → HoldsIfAny land facts → AreCounts facts counts → o ≡ fact_with facts id →
    IfSome o (λ (f : Fact). 0 < get_or counts f.owner 0)
is_counted None P facts counts id o fits h are e = absurd fits
is_counted (Some l) P facts counts id None fits h are e = tt
is_counted (Some l) P facts counts id (Some f) fits h are e =
    omega (arith, are f.owner (found_owner l facts id f (h l refl) (sym e)), one_at_least facts id f (sym e))

-- few are counted, also after one left
pub few_left : (land : Option Land) (P : Land → Type 0) (facts : List Fact) (counts fewer : List ℕ) (o : Option Fact) → MatchOption land ⊥ P
    → HoldsIfAny land facts → AreCounts facts counts →
    ((owner : ℕ) → owner < 9 → get_or fewer owner 0 + one_if (passes (is_owned_by owner) o) ≡ get_or counts owner 0) → (owner : ℕ) → owner < 9
    → get_or fewer owner 0 ≤ 4096
few_left None P facts counts fewer o fits h are left owner lt = absurd fits
few_left (Some l) P facts counts fewer o fits h are left owner lt =
    omega (arith, are owner lt, left owner lt, count_by-le-length (is_owned_by owner) facts, (h l refl).held.few)

-- what is kept of the id after the note
pub part_found : (land : Option Land) (facts after : List Fact) (note : Note) (id : ℕ) (before part : Option Fact)
    → MatchOption land ⊥ (λ (l : Land). NoteFits Census l facts note) →
    id ≡ id_in note → before ≡ fact_with facts id → part ≡ part_noted Census before note → after ≡ noted Census facts note → part ≡ fact_with after id
part_found None facts after note id before part fits e found is new = absurd fits
part_found (Some l) facts after note id before part fits e found is new =
    let here : before ≡ fact_with facts (id_in note) = found ∙ ap (fact_with facts) e in
    is ∙ ap (λ (o : Option Fact). part_noted Census o note) here ∙ sym (part_is Census l facts note fits) ∙ ap (λ (fs : List Fact). fact_with fs (id_in note))
    (sym new) ∙ ap (fact_with after) (sym e)

pub recounted : (land : Option Land) (facts after : List Fact) (note : Note) (id : ℕ) (before part : Option Fact) (counts fewer more : List ℕ)
    → MatchOption land ⊥ (λ (l : Land). NoteFits Census l facts note) → HoldsIfAny land facts →
    AreCounts facts counts → id ≡ id_in note → before ≡ fact_with facts id → part ≡ part_noted Census before note → after ≡ noted Census facts note →
    ((owner : ℕ) → owner < 9 → get_or fewer owner 0 + one_if (passes (is_owned_by owner) before) ≡ get_or counts owner 0) →
    ((owner : ℕ) → owner < 9 → get_or more owner 0 ≡ get_or fewer owner 0 + one_if (passes (is_owned_by owner) part)) → AreCounts after more
recounted None facts after note id before part counts fewer more fits h are e found is new left joined owner lt = absurd fits
recounted (Some l) facts after note id before part counts fewer more fits h are e found is new left joined owner lt =
    let made : part ≡ fact_with after id = part_found (Some l) facts after note id before part fits e found is new in
    let only : OnlyAt id facts after = subst (λ (n : ℕ). OnlyAt n facts after) (sym e)
    (subst (OnlyAt (id_in note) facts) (sym new) (noted_only Census l facts note (rising facts (h l refl).held.ascending) fits)) in
    let count = count_after (is_owned_by owner) id facts after only in
    let old = ap (λ (o : Option Fact). one_if (passes (is_owned_by owner) o)) found in
    let young = ap (λ (o : Option Fact). one_if (passes (is_owned_by owner) o)) made in
    omega (arith, count, old, young, left owner lt, joined owner lt, are owner lt)

-- nobody is of an owner past the nine
nobody : (facts : List Fact) (owner : ℕ) → 9 ≤ owner → All (λ (f : Fact). f.owner < 9) facts → population_among facts owner ≡ 0
nobody [] owner le all = refl
nobody (f ∷ facts) owner le all =
    let small : f.owner < 9 = All-head (λ (f : Fact). f.owner < 9) f facts all in
    let other : (f.owner == owner) ≡ false = ne_eqb f.owner owner (λ e. omega arith) in
    let none : one_if (f.owner == owner) ≡ one_if false = ap one_if other in
    omega (arith, tally (is_owned_by owner) f facts, none, nobody facts owner le (All-tail (λ (f : Fact). f.owner < 9) f facts all))

owners_few : (l : Land) (facts : List Fact) → IsLand l → All (IsHeld l) facts → All (λ (f : Fact). f.owner < 9) facts
owners_few l facts limits all = All-weaker (IsHeld l) (λ (f : Fact). f.owner < 9) (λ f h. omega (arith, h.owner, limits.players.1)) facts all

-- the number that is looked up is the population, whoever the owner
pub looked_up : (l : Land) (facts : List Fact) (counts : List ℕ) (owner : ℕ) → length counts ≡ 9 → Holds l facts → AreCounts facts counts
    → get_or counts owner 0 ≡ population_among facts owner
looked_up l facts counts owner full h are =
    elim (cases_lt owner 9) [
      | inl lt ↦ are owner lt
      | inr le ↦ (get_or_past counts owner 0 (omega arith) ∙ sym (nobody facts owner le (owners_few l facts h.limits h.held.each)))
    ]

-- so the answer is the number that is looked up
pub answer_is : (land : Option Land) (P : Land → Type 0) (facts : List Fact) (counts : List ℕ) (ask : Ask) (owner n : ℕ) → MatchOption land ⊥ P
    → HoldsIfAny land facts → AreCounts facts counts → length counts ≡ 9 → ask ≡ Count owner → n ≡ get_or counts owner 0 →
    MatchOption land ⊥ (λ (l : Land). Number n ≡ answer l facts ask)
answer_is None P facts counts ask owner n fits h are full e is = absurd fits
answer_is (Some l) P facts counts ask owner n fits h are full e is = ap Number (is ∙ looked_up l facts counts owner full (h l refl) are) ∙
    ap (answer l facts) (sym e)
