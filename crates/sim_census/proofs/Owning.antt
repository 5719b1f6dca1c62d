-- A list of entities and their owners: where one stands, and what the list stands for after an edit there.
use Rattle.{sim_base.specs.declared.setup.Land.Land, sim_census.specs.{declared.owned.Owned.Owned, Owners.{fact_in, facts_in, IsOfOwner, owner_fact}}}
use Rattle.sim_fact_lists.proofs.{OneFact.{ascends, found_all, replaced, rising}, Standing.{found_read, nothing_new, put_new, put_nothing, put_over, rises}}
use Rattle.sim_fact_lists.specs.Changes.{Ascend, Belongs, part_noted, Stands, with_only}
use Rattle.sim_system.specs.{declared.{fact.Fact.Fact, kind.Kind.TheVariants.Census, note.Note.{Note, TheVariants.{Aimed, Born, Gone}}}, Meanings.Meaning}
use Rattle.{sim_system.specs.Notes.{fact_with, id_of_fact, kept_of}, std.proofs.Common.{All, ap, arith, Bool, cond, false, get_or, inl, inr, length, List, map}}
use Rattle.std.proofs.Common.{None, Option, refl, set, Some, subst, suc, sym, take, true, zero, ℕ, [], ◌<◌, ◌∙◌, ◌∷◌, ◌≡◌, ◌≤◌}
use Rattle.std.proofs.lemmas.{Bool.{cases_lt, Decides.nat_tests}, Cmp.ranked, List.{Elements.{All-cons, All-nil}, get_or-map, length-map, map-set, take_all}}
use Rattle.std.specs.List.{insert, remove, Sorted.{IsBinarySearchResult, IsNonDecreasingBy, IsSearchInRange, IsStrictlyIncreasing}}
use Rattle.std.specs.{Ordering.{nat_cmp, ordering_index}, Prelude.{Err, IfSome, MatchResult, Ok, Result}}
use Rattle.sim_system.specs.declared.note.Note.TheVariants.{Moved, Owned as OwnedNote}

-- stands for an entity past the end
abbrev nobody : Owned
nobody = record { id = 0; owner = 0 }

fact_at : (owned : List Owned) (k : ℕ) (a : Owned) (d : Fact) → k < length owned → get_or (facts_in owned) k d ≡ fact_in (get_or owned k a)
fact_at owned k a d lt = get_or-map fact_in owned k a d lt

as_many : (owned : List Owned) → length (facts_in owned) ≡ length owned
as_many owned = length-map owned fact_in

-- ---- where an entity stands

rise : (owned : List Owned) (i j : ℕ) (a : Owned) → Ascend (facts_in owned) → i < j → j < length owned → (get_or owned i a).id < (get_or owned j a).id
rise owned i j a up before lt =
    let h = rises (facts_in owned) i j (fact_in a) (rising (facts_in owned) up) before (omega (arith, lt, as_many owned)) in
    let one = ap id_of_fact (fact_at owned i a (fact_in a) (omega arith)) in
    let other = ap id_of_fact (fact_at owned j a (fact_in a) lt) in
    omega (arith, h, one, other)

comparisons_rise : (owned : List Owned) (id : ℕ) → Ascend (facts_in owned) → IsNonDecreasingBy (λ (a : Owned). ordering_index (nat_cmp a.id id)) owned
comparisons_rise owned id up i j d le lt =
    elim (cases_lt i j) [
      | inl before ↦ (let h = rise owned i j d up before lt in grind (arith, nat_tests))
      | inr same ↦ (let e : i ≡ j = omega arith in rw e (omega arith))
    ]

pub place_by : (owned : List Owned) (id : ℕ) (r : Result ℕ ℕ) → Ascend (facts_in owned) → IsSearchInRange r (length owned)
    → IsBinarySearchResult (λ (a : Owned). nat_cmp a.id id) owned r → MatchResult r (Stands (facts_in owned) id) (Belongs (facts_in owned) id)
place_by owned id (Ok at) up within there = record {
  within = omega (arith, within, as_many owned);
  same = λ d. ap id_of_fact (fact_at owned at nobody d within) ∙ ranked _ id _ (sym (there nobody));
}
place_by owned id (Err at) up within parted =
    let parts = parted (comparisons_rise owned id up) in
    record {
      within = omega (arith, within, as_many owned);
      before = λ k d lt.
          let low : k < length owned = omega (arith, lt, within) in
          let less : (get_or owned k nobody).id < id = ranked _ id _ (sym (parts.0 k nobody (omega arith) lt)) in
          let is = ap id_of_fact (fact_at owned k nobody d low) in
          omega (arith, less, is);
      behind = λ k d le lt.
          let low : k < length owned = omega (arith, lt, as_many owned) in
          let more : id < (get_or owned k nobody).id = ranked _ id _ (sym (parts.1 k nobody le low)) in
          let is = ap id_of_fact (fact_at owned k nobody d low) in
          omega (arith, more, is);
    }

-- ---- what is kept of an entity

pub found_owner : (owned : List Owned) (id at : ℕ) (a : Owned) (f : Fact) → Ascend (facts_in owned) → Stands (facts_in owned) id at
    → a ≡ get_or owned at a → f ≡ fact_in a → Some f ≡ fact_with (facts_in owned) id
found_owner owned id at a f up s is made =
    let lt : at < length owned = omega (arith, s.within, as_many owned) in
    found_read (facts_in owned) id at f up s (made ∙ ap fact_in is ∙ sym (fact_at owned at a f lt))

-- ---- an edit

map_insert : (owned : List Owned) (at : ℕ) (a : Owned) → facts_in (insert owned at a) ≡ insert (facts_in owned) at (fact_in a)
map_insert [] zero a = refl
map_insert [] (suc at) a = refl
map_insert (b ∷ owned) zero a = refl
map_insert (b ∷ owned) (suc at) a = ap (λ (fs : List Fact). fact_in b ∷ fs) (map_insert owned at a)

map_remove : (owned : List Owned) (at : ℕ) → facts_in (remove owned at) ≡ remove (facts_in owned) at
map_remove [] zero = refl
map_remove [] (suc at) = refl
map_remove (b ∷ owned) zero = refl
map_remove (b ∷ owned) (suc at) = ap (λ (fs : List Fact). fact_in b ∷ fs) (map_remove owned at)

named : (id : ℕ) (o : Option Fact) → IfSome o (IsOfOwner id) → IfSome o (λ (f : Fact). f.id ≡ id)
named id None h = tt
named id (Some f) h = ap id_of_fact h

pub still_up : (owned after : List Owned) (id : ℕ) (o : Option Fact) → IfSome o (IsOfOwner id) → Ascend (facts_in owned)
    → facts_in after ≡ with_only id o (facts_in owned) → Ascend (facts_in after)
still_up owned after id o h up is =
    subst Ascend (sym is) (ascends (with_only id o (facts_in owned)) ((replaced id o (facts_in owned) (is_named o h) (rising (facts_in owned) up)).later))
  where
    is_named : (p : Option Fact) → IfSome p (IsOfOwner id) → (f : Fact) → p ≡ Some f → f.id ≡ id
    is_named None k f e = absurd (cc)
    is_named (Some g) k f e = let same : g ≡ f = cc in sym (ap id_of_fact same) ∙ ap id_of_fact k

-- the same where room for one more may have been refused
pub up_either : (b : Bool) (one other after : List Owned) → after ≡ cond b one other → Ascend (facts_in one) → Ascend (facts_in other)
    → Ascend (facts_in after)
up_either true one other after is up down = subst (λ (owned : List Owned). Ascend (facts_in owned)) (sym is) up
up_either false one other after is up down = subst (λ (owned : List Owned). Ascend (facts_in owned)) (sym is) down

module _ (owned : List Owned) (id at : ℕ) (o : Option Fact) (known : IfSome o (IsOfOwner id)) where
  made : (f : Fact) (a : Owned) → o ≡ Some f → a ≡ record { id = f.id; owner = f.owner } → fact_in a ≡ f
  made f a e is = ap fact_in is ∙ by o known e
    where
      by : (p : Option Fact) → IfSome p (IsOfOwner id) → p ≡ Some f → owner_fact f.id f.owner ≡ f
      by None k s = absurd (cc)
      by (Some g) k s =
          let same : g ≡ f = cc in
          let told : f ≡ owner_fact id f.owner = subst (IsOfOwner id) same k in
          ap (λ (n : ℕ). owner_fact n f.owner) (ap id_of_fact told) ∙ sym told

  pub owner_over : (f : Fact) (a : Owned) → Ascend (facts_in owned) → Stands (facts_in owned) id at → o ≡ Some f → a ≡ record { id = f.id; owner = f.owner }
      → facts_in (set owned at a) ≡ with_only id o (facts_in owned)
  owner_over f a up s e is =
      map-set fact_in owned at a ∙ ap (set (facts_in owned) at) (made f a e is) ∙ put_over (facts_in owned) (facts_in owned) id at o f refl up s e
      (named id o known)

  pub owner_gone : Ascend (facts_in owned) → Stands (facts_in owned) id at → o ≡ None → facts_in (remove owned at) ≡ with_only id o (facts_in owned)
  owner_gone up s e = map_remove owned at ∙ put_nothing (facts_in owned) (facts_in owned) id at o refl up s e

  pub owner_new : (f : Fact) (a : Owned) → Belongs (facts_in owned) id at → o ≡ Some f → a ≡ record { id = f.id; owner = f.owner }
      → facts_in (insert owned at a) ≡ with_only id o (facts_in owned)
  owner_new f a b e is =
      map_insert owned at a ∙ ap (insert (facts_in owned) at) (made f a e is) ∙ put_new (facts_in owned) (facts_in owned) id at o f refl b e
      (named id o known)

  pub no_owner : Belongs (facts_in owned) id at → o ≡ None → facts_in owned ≡ with_only id o (facts_in owned)
  no_owner b e = nothing_new (facts_in owned) (facts_in owned) id at o refl b e

-- ---- all facts of a state

-- the id and the owner of a fact
abbrev pub owned_in : Fact → Owned
owned_in fact = record { id = fact.id; owner = fact.owner }

ids_of : (facts : List Fact) → map id_of_fact (facts_in (map owned_in facts)) ≡ map id_of_fact facts
ids_of [] = refl
ids_of (f ∷ facts) = ap (λ (ids : List ℕ). f.id ∷ ids) (ids_of facts)

kept_alike : (facts : List Fact) → facts_in (map owned_in facts) ≡ kept_of Census facts
kept_alike [] = refl
kept_alike (f ∷ facts) = ap (λ (fs : List Fact). owner_fact f.id f.owner ∷ fs) (kept_alike facts)

whole : (facts : List Fact) (all : List Owned) (n : ℕ) → all ≡ map owned_in (take n facts) → length facts ≤ n → all ≡ map owned_in facts
whole facts all n is le = is ∙ ap (map owned_in) (take_all n facts le)

pub listed_ascend : (facts : List Fact) (all : List Owned) (n : ℕ) → Ascend facts → all ≡ map owned_in (take n facts) → length facts ≤ n → Ascend (facts_in all)
listed_ascend facts all n up is le =
    subst IsStrictlyIncreasing (sym (ap (λ (owned : List Owned). map id_of_fact (facts_in owned)) (whole facts all n is le) ∙ ids_of facts)) up

pub listed_facts : (facts : List Fact) (all : List Owned) (n : ℕ) → all ≡ map owned_in (take n facts) → length facts ≤ n → facts_in all ≡ kept_of Census facts
listed_facts facts all n is le = ap facts_in (whole facts all n is le) ∙ kept_alike facts

-- ---- a note

-- a fact tells the owner of its entity and nothing else
abbrev alone : Fact → Type 0
alone f = f ≡ owner_fact f.id f.owner

all_owned : (owned : List Owned) → All alone (facts_in owned)
all_owned [] = All-nil alone
all_owned (a ∷ owned) = All-cons alone (fact_in a) (facts_in owned) refl (all_owned owned)

-- what is kept of an entity after a note tells its owner and nothing else
pub part_of_owner : (owned : List Owned) (note : Note) (id : ℕ) (before part : Option Fact) → before ≡ fact_with (facts_in owned) id
    → part ≡ part_noted Census before note → IfSome part (λ (f : Fact). f.id ≡ id) → IfSome part (IsOfOwner id)
part_of_owner owned note id before part found is named = whose part (subst (λ (o : Option Fact). IfSome o alone) (sym is) (noted before known note)) named
  where
    known : IfSome before alone
    known = by before refl
      where
        by : (o : Option Fact) → before ≡ o → IfSome o alone
        by None e = tt
        by (Some f) e = found_all alone id (facts_in owned) f (all_owned owned) (sym found ∙ e)

    noted : (o : Option Fact) → IfSome o alone → (n : Note) → IfSome (part_noted Census o n) alone
    noted o h (Born fact) = refl
    noted o h (Gone fact) = tt
    noted o h (Moved i from to) = h
    noted None h (OwnedNote i from to) = tt
    noted (Some f) h (OwnedNote i from to) = ap (λ (g : Fact). record g { owner = to }) h
    noted o h (Aimed i from to) = h

    whose : (o : Option Fact) → IfSome o alone → IfSome o (λ (f : Fact). f.id ≡ id) → IfSome o (IsOfOwner id)
    whose None h e = tt
    whose (Some f) h e = h ∙ ap (λ (n : ℕ). owner_fact n f.owner) e

-- ---- as a meaning

abbrev pub meant : Option Land → List Fact → ℕ → Meaning
meant land facts rebuilds = record { kind = Census; land = land; facts = facts; rebuilds = rebuilds }
