-- What entities see when what is kept of one changes.
use Rattle.sim_fact_lists.proofs.Ids.{Above as NumbersAbove}
use Rattle.sim_range.proofs.Common.{Above, above_less, AgreeElsewhere, ap, arith, Ascend, Bool, cond, differ, eq-eqb, Fact, fact_with, false, filter, found_id}
use Rattle.sim_range.proofs.Common.{get_or, id_of_fact, IfSome, in_mask, is_among, is_near, is_seen, is_seen_by, Land, length, List, map, Missing, nat_lt, None}
use Rattle.sim_range.proofs.Common.{not, only_itself, Option, placed, refl, Rising, rising, rising_without, seen_by_vision, sight, slice_index, Some, subst}
use Rattle.sim_range.proofs.Common.{suc, sym, true, turned, with_behind, with_first, with_id, with_only, within_among, without, without_id, without_missing}
use Rattle.sim_range.proofs.{Common.{zero, ℕ, ℤ, [], ◌&&◌, ◌<◌, ◌==◌, ◌||◌, ◌∙◌, ◌∷◌, ◌≡◌, ◌≤◌}, Nearing.{chosen, chosen-cons}, Turning.{Ups, with_without}}

-- ---- what passes a test, when one fact comes or goes

module _ (g : Fact → Bool) where
  chosen_above : (n : ℕ) (facts : List Fact) → Above n facts → NumbersAbove n (chosen g facts)
  chosen_above n [] a = tt
  chosen_above n (f ∷ facts) a = subst (NumbersAbove n) (sym (chosen-cons g f facts)) (by (g f) (chosen_above n facts a.1))
    where
      by : (c : Bool) → NumbersAbove n (chosen g facts) → NumbersAbove n (cond c (f.id ∷ chosen g facts) (chosen g facts))
      by true rest = (a.0, rest)
      by false rest = rest

  pub chosen_ups : (facts : List Fact) → Rising facts → Ups (chosen g facts)
  chosen_ups [] r = tt
  chosen_ups (f ∷ facts) r = subst Ups (sym (chosen-cons g f facts)) (by (g f) (chosen_ups facts r.1))
    where
      by : (c : Bool) → Ups (chosen g facts) → Ups (cond c (f.id ∷ chosen g facts) (chosen g facts))
      by true rest = (chosen_above f.id facts r.0, rest)
      by false rest = rest

  pub chosen_without : (id : ℕ) (facts : List Fact) → chosen g (without id facts) ≡ without_id id (chosen g facts)
  chosen_without id [] = refl
  chosen_without id (f ∷ facts) = by (f.id == id) refl (chosen_without id facts) ∙ sym (ap (without_id id) (chosen-cons g f facts))
    where
      gone : (c : Bool) → (f.id == id) ≡ true → chosen g (without id facts) ≡ without_id id (chosen g facts) → chosen g (without id facts) ≡ without_id id
          (cond c (f.id ∷ chosen g facts) (chosen g facts))
      gone true e rest = rw e rest
      gone false e rest = rest

      stays : (c : Bool) → (f.id == id) ≡ false → chosen g (without id facts) ≡ without_id id (chosen g facts) →
          cond c (f.id ∷ chosen g (without id facts)) (chosen g (without id facts)) ≡ without_id id (cond c (f.id ∷ chosen g facts) (chosen g facts))
      stays true e rest = rw e (ap (λ (xs : List ℕ). f.id ∷ xs) rest)
      stays false e rest = rest

      by : (b : Bool) → (f.id == id) ≡ b → chosen g (without id facts) ≡ without_id id (chosen g facts) →
          chosen g (cond (not b) (f ∷ without id facts) (without id facts)) ≡ without_id id (cond (g f) (f.id ∷ chosen g facts) (chosen g facts))
      by true e rest = gone (g f) e rest
      by false e rest = chosen-cons g f (without id facts) ∙ stays (g f) e rest

  chosen_placed : (f : Fact) (facts : List Fact) → Rising facts → Missing f.id facts → chosen g (placed f facts) ≡ cond (g f) (with_id f.id (chosen g facts))
      (chosen g facts)
  chosen_placed f [] r m = chosen-cons g f []
  chosen_placed f (h ∷ facts) r m = by (nat_lt f.id h.id) refl (chosen_placed f facts r.1 m.1)
    where
      first : nat_lt f.id h.id ≡ true → (c : Bool) → cond c (f.id ∷ chosen g (h ∷ facts)) (chosen g (h ∷ facts)) ≡ cond c (with_id f.id (chosen g (h ∷ facts)))
          (chosen g (h ∷ facts))
      first e true = let lt : f.id < h.id = grind arith in
          sym (with_first f.id (chosen g (h ∷ facts)) (chosen_above f.id (h ∷ facts) (lt, above_less f.id h.id facts (omega (arith, lt)) r.0)))
      first e false = refl

      behind : h.id < f.id → (b c : Bool) → chosen g (placed f facts) ≡ cond c (with_id f.id (chosen g facts)) (chosen g facts) →
          cond b (h.id ∷ chosen g (placed f facts)) (chosen g (placed f facts)) ≡ cond c (with_id f.id (cond b (h.id ∷ chosen g facts) (chosen g facts)))
          (cond b (h.id ∷ chosen g facts) (chosen g facts))
      behind lt true true e = ap (λ (xs : List ℕ). h.id ∷ xs) e ∙ sym (with_behind f.id h.id (chosen g facts) lt)
      behind lt true false e = ap (λ (xs : List ℕ). h.id ∷ xs) e
      behind lt false true e = e
      behind lt false false e = e

      by : (b : Bool) → nat_lt f.id h.id ≡ b → chosen g (placed f facts) ≡ cond (g f) (with_id f.id (chosen g facts)) (chosen g facts) →
          chosen g (cond b (f ∷ h ∷ facts) (h ∷ placed f facts)) ≡ cond (g f) (with_id f.id (chosen g (h ∷ facts))) (chosen g (h ∷ facts))
      by true e rest = chosen-cons g f (h ∷ facts) ∙ first e (g f)
      by false e rest =
          let le : h.id ≤ f.id = grind arith in
          let apart : h.id ≡ f.id → ⊥ = m.0 in
          let lt : h.id < f.id = omega (arith, le, apart) in
          chosen-cons g h (placed f facts) ∙ behind lt (g h) (g f) rest ∙ sym (ap (λ (xs : List ℕ). cond (g f) (with_id f.id xs) xs) (chosen-cons g h facts))

  pub chosen_only : (id : ℕ) (f : Fact) (facts : List Fact) → Rising facts → f.id ≡ id → chosen g (placed f (without id facts)) ≡ turned (g f) id
      (chosen g facts)
  chosen_only id f facts r named =
      chosen_placed f (without id facts) (rising_without id facts r) (subst (λ (n : ℕ). Missing n (without id facts)) (sym named) (without_missing id facts))
      ∙ ap (λ (xs : List ℕ). cond (g f) (with_id f.id xs) xs) (chosen_without id facts) ∙
      ap (λ (n : ℕ). cond (g f) (with_id n (without_id id (chosen g facts))) (without_id id (chosen g facts))) named ∙ by (g f)
    where
      by : (c : Bool) → cond c (with_id id (without_id id (chosen g facts))) (without_id id (chosen g facts)) ≡ turned c id (chosen g facts)
      by true = with_without id (chosen g facts) (chosen_ups facts r)
      by false = refl

  pub chosen_none : (id : ℕ) (facts : List Fact) → chosen g (without id facts) ≡ turned false id (chosen g facts)
  chosen_none id facts = chosen_without id facts

-- ---- what an entity sees

module _ (land : Land) (watcher : Fact) where
  pub seen_is : (vision : Option ℤ) (facts : List Fact) → seen_by_vision land facts watcher vision ≡ chosen (is_seen_by land watcher vision) facts
  seen_is None [] = refl
  seen_is None (f ∷ facts) = seen_is None facts
  seen_is (Some v) [] = refl
  seen_is (Some v) (f ∷ facts) = by (p f) (not (f.id == watcher.id)) refl refl (seen_is (Some v) facts)
    where
      p : Fact → Bool
      p h = h.health && in_mask (slice_index land.masks watcher.owner) h.owner && is_near h.at watcher.at v

      by : (b n : Bool) → p f ≡ b → not (f.id == watcher.id) ≡ n → seen_by_vision land facts watcher (Some v) ≡ chosen (is_seen_by land watcher (Some v)) facts
          →
          filter (λ (id : ℕ). not (id == watcher.id)) (map id_of_fact (cond b (f ∷ filter p facts) (filter p facts))) ≡ map id_of_fact
          (cond (n && b) (f ∷ filter (is_seen_by land watcher (Some v)) facts) (filter (is_seen_by land watcher (Some v)) facts))
      by true true e m rest = rw m (ap (λ (xs : List ℕ). f.id ∷ xs) rest)
      by true false e m rest = rw m rest
      by false true e m rest = rest
      by false false e m rest = rest

  pub sight_ups : (facts : List Fact) → Rising facts → Ups (sight land facts watcher)
  sight_ups facts r = subst Ups (sym (seen_is watcher.vision facts)) (chosen_ups (is_seen_by land watcher watcher.vision) facts r)

  -- what it sees is changed by whether it sees the entity afterwards
  pub turned_is : (id : ℕ) (part : Option Fact) (facts : List Fact) → Rising facts → IfSome part (λ (f : Fact). f.id ≡ id)
      → turned (is_seen land watcher part) id (sight land facts watcher) ≡ sight land (with_only id part facts) watcher
  turned_is id None facts r named = ap (without_id id) (seen_is watcher.vision facts) ∙ sym (chosen_none (is_seen_by land watcher watcher.vision) id facts) ∙
      sym (seen_is watcher.vision (without id facts))
  turned_is id (Some f) facts r named =
      ap (turned (is_seen_by land watcher watcher.vision f) id) (seen_is watcher.vision facts) ∙
      sym (chosen_only (is_seen_by land watcher watcher.vision) id f facts r named) ∙ sym (seen_is watcher.vision (placed f (without id facts)))

  found_named : (id : ℕ) (o : Option Fact) (facts : List Fact) → o ≡ fact_with facts id → IfSome o (λ (f : Fact). f.id ≡ id)
  found_named id None facts found = tt
  found_named id (Some f) facts found = found_id id facts f (sym found)

  -- it stays where this is as before
  pub still_sees : (id : ℕ) (before part : Option Fact) (facts : List Fact) → Rising facts → before ≡ fact_with facts id → IfSome part (λ (f : Fact). f.id ≡ id)
      → is_seen land watcher before ≡ is_seen land watcher part → sight land (with_only id part facts) watcher ≡ sight land facts watcher
  still_sees id before part facts r found named same =
      sym (turned_is id part facts r named) ∙ ap (λ (b : Bool). turned b id (sight land facts watcher)) (sym same) ∙
      turned_is id before facts r (found_named id before facts found)
      ∙ ap (λ (o : Option Fact). sight land (with_only id o facts) watcher) found ∙ ap (λ (fs : List Fact). sight land fs watcher) (only_itself id facts r)

  -- and where it is itself what changes
  pub own_sight : (id : ℕ) (part : Option Fact) (facts : List Fact) → Rising facts → IfSome part (λ (f : Fact). f.id ≡ id) → watcher.id ≡ id
      → sight land (with_only id part facts) watcher ≡ without_id id (sight land facts watcher)
  own_sight id part facts r named same = sym (turned_is id part facts r named) ∙ ap (λ (b : Bool). turned b id (sight land facts watcher)) (by part named)
    where
      unseen : (vision : Option ℤ) (f : Fact) → f.id ≡ id → is_seen_by land watcher vision f ≡ false
      unseen None f e = refl
      unseen (Some v) f e = let it : (f.id == watcher.id) ≡ true = eq-eqb f.id watcher.id (e ∙ sym same) in rw it refl

      by : (o : Option Fact) → IfSome o (λ (f : Fact). f.id ≡ id) → is_seen land watcher o ≡ false
      by None h = refl
      by (Some f) h = unseen watcher.vision f h

twice : (n : ℕ) (xs : List ℕ) → without_id n xs ≡ without_id n (without_id n xs)
twice n [] = refl
twice n (x ∷ xs) = by (not (x == n)) refl (twice n xs)
  where
    by : (b : Bool) → not (x == n) ≡ b → without_id n xs ≡ without_id n (without_id n xs) → cond b (x ∷ without_id n xs) (without_id n xs) ≡ without_id n
        (cond b (x ∷ without_id n xs) (without_id n xs))
    by true e rest = rw e (ap (λ (ys : List ℕ). x ∷ ys) rest)
    by false e rest = rest

-- what an entity sees once it has changed does not depend on how it was before
pub own_is : (land : Land) (id : ℕ) (part : Option Fact) (facts lent : List Fact) (ids : List ℕ) → lent ≡ facts → Ascend facts
    → IfSome part (λ (f : Fact). f.id ≡ id) → IfSome part (λ (f : Fact). ids ≡ sight land facts f) →
    IfSome part (λ (f : Fact). ids ≡ sight land (with_only id part lent) f)
own_is land id None facts lent ids is up named own = tt
own_is land id (Some f) facts lent ids is up named own =
    own ∙ without_itself land f facts id named ∙ sym (own_sight land f id (Some f) facts (rising facts up) named named) ∙
    ap (λ (fs : List Fact). sight land (with_only id (Some f) fs) f) (sym is)
  where
    by_vision : (l : Land) (w : Fact) (fs : List Fact) (vision : Option ℤ) → seen_by_vision l fs w vision ≡ without_id w.id (seen_by_vision l fs w vision)
    by_vision l w fs None = refl
    by_vision l w fs (Some v) = twice w.id (within_among fs w.at v (slice_index l.masks w.owner))

    without_itself : (l : Land) (w : Fact) (fs : List Fact) (n : ℕ) → w.id ≡ n → sight l fs w ≡ without_id n (sight l fs w)
    without_itself l w fs n e = by_vision l w fs w.vision ∙ ap (λ (m : ℕ). without_id m (sight l fs w)) e

-- ---- for whom it changes whether they see one

same_by : (a b : Bool) → cond a (not b) b ≡ false → a ≡ b
same_by true true e = refl
same_by true false e = absurd (cc)
same_by false true e = absurd (cc)
same_by false false e = refl

module _ (g : Fact → Bool) where
  not_chosen : (facts : List Fact) (i : ℕ) (f : Fact) → i < length facts → is_among (chosen g facts) (get_or facts i f).id ≡ false
      → g (get_or facts i f) ≡ false
  not_chosen [] i f lt none = absurd (omega arith)
  not_chosen (h ∷ facts) zero f lt none = by (g h) refl (ap (λ (xs : List ℕ). is_among xs h.id) (sym (chosen-cons g h facts)) ∙ none)
    where
      by : (c : Bool) → g h ≡ c → is_among (cond c (h.id ∷ chosen g facts) (chosen g facts)) h.id ≡ false → g h ≡ false
      by true e s = let here : (h.id == h.id) ≡ true = eq-eqb h.id h.id refl in absurd (grind arith)
      by false e s = e
  not_chosen (h ∷ facts) (suc i) f lt none =
      not_chosen facts i f (omega arith) (by (g h) (ap (λ (xs : List ℕ). is_among xs (get_or facts i f).id) (sym (chosen-cons g h facts)) ∙ none))
    where
      rest : (b c : Bool) → (b || c) ≡ false → c ≡ false
      rest true c e = absurd (cc)
      rest false c e = e

      by : (c : Bool) → is_among (cond c (h.id ∷ chosen g facts) (chosen g facts)) (get_or facts i f).id ≡ false
          → is_among (chosen g facts) (get_or facts i f).id ≡ false
      by true s = rest (h.id == (get_or facts i f).id) (is_among (chosen g facts) (get_or facts i f).id) s
      by false s = s

-- all for whom two tests differ are among these
pub agree_elsewhere : (g h : Fact → Bool) (facts : List Fact) (ids : List ℕ)
    → ((n : ℕ) → is_among ids n ≡ is_among (chosen (λ (f : Fact). differ (g f) (h f)) facts) n) → AgreeElsewhere g h facts ids
agree_elsewhere g h facts ids same i f lt none = same_by (g (get_or facts i f)) (h (get_or facts i f))
    (not_chosen (λ (e : Fact). differ (g e) (h e)) facts i f lt (sym (same (get_or facts i f).id) ∙ none))
