-- The groups that are kept are those of the facts, also after a note.
use Rattle.sim_fact_lists.proofs.Common.{ap, AreGroups, arith, Ascend, Bool, cond, cons_option, eqb-true, Fact, fact_with, false, filter, get_or, Group}
use Rattle.sim_fact_lists.proofs.Common.{id_of_fact, joined_by, kept, kept_of, keyed, Kind, left_by, length, List, listed, map, nat_lt, None, not, Option}
use Rattle.sim_fact_lists.proofs.Common.{placed, refl, Some, subst, suc, sym, take, true, with_id, with_kept, with_only, without, without_id, zero, ℕ, [], ◌+◌}
use Rattle.{sim_fact_lists.proofs.{Common.{◌<◌, ◌==◌, ◌∙◌, ◌∷◌, ◌≡◌, ◌≤◌}, Ids.{Above, with_behind, with_first}}, sim_system.proofs.Facts.kept_id}
use Rattle.sim_fact_lists.proofs.OneFact.{Above as FactsAbove, above_at, above_less, found_id, Missing, missing_above, missing_without, not_found}
use Rattle.sim_fact_lists.proofs.OneFact.{Rising as FactsRising, rising as facts_rising, rising_without, without_missing}

-- by any key
module _ (key : Fact → ℕ) where
  -- one fact more in front
  keyed-cons : (t : ℕ) (f : Fact) (facts : List Fact) → keyed key t (f ∷ facts) ≡ cond (key f == t) (f.id ∷ keyed key t facts) (keyed key t facts)
  keyed-cons t f facts = by (key f == t)
    where
      by : (c : Bool) → map id_of_fact (cond c (f ∷ filter (λ (g : Fact). key g == t) facts) (filter (λ (g : Fact). key g == t) facts)) ≡ cond c
          (f.id ∷ keyed key t facts) (keyed key t facts)
      by true = refl
      by false = refl

  -- the ids of facts that are above a number
  keyed_above : (n t : ℕ) (facts : List Fact) → FactsAbove n facts → Above n (keyed key t facts)
  keyed_above n t [] a = tt
  keyed_above n t (f ∷ facts) a = subst (Above n) (sym (keyed-cons t f facts)) (by (key f == t) (keyed_above n t facts a.1))
    where
      by : (c : Bool) → Above n (keyed key t facts) → Above n (cond c (f.id ∷ keyed key t facts) (keyed key t facts))
      by true rest = (a.0, rest)
      by false rest = rest

  -- ---- an entity leaves

  keyed_without : (t id : ℕ) (facts : List Fact) → keyed key t (without id facts) ≡ without_id id (keyed key t facts)
  keyed_without t id [] = refl
  keyed_without t id (f ∷ facts) = by (f.id == id) refl (keyed_without t id facts) ∙ sym (ap (without_id id) (keyed-cons t f facts))
    where
      gone : (c : Bool) → (f.id == id) ≡ true → keyed key t (without id facts) ≡ without_id id (keyed key t facts) → keyed key t (without id facts) ≡
          without_id id (cond c (f.id ∷ keyed key t facts) (keyed key t facts))
      gone true e rest = rw e rest
      gone false e rest = rest

      stays : (c : Bool) → (f.id == id) ≡ false → keyed key t (without id facts) ≡ without_id id (keyed key t facts) →
          cond c (f.id ∷ keyed key t (without id facts)) (keyed key t (without id facts)) ≡ without_id id
          (cond c (f.id ∷ keyed key t facts) (keyed key t facts))
      stays true e rest = rw e (ap (λ (xs : List ℕ). f.id ∷ xs) rest)
      stays false e rest = rest

      by : (b : Bool) → (f.id == id) ≡ b → keyed key t (without id facts) ≡ without_id id (keyed key t facts) →
          keyed key t (cond (not b) (f ∷ without id facts) (without id facts)) ≡ without_id id
          (cond (key f == t) (f.id ∷ keyed key t facts) (keyed key t facts))
      by true e rest = gone (key f == t) e rest
      by false e rest = keyed-cons t f (without id facts) ∙ stays (key f == t) e rest

  -- it is in no group but that of its key
  keyed_others : (t id : ℕ) (facts : List Fact) (f : Fact) → FactsRising facts → fact_with facts id ≡ Some f → (key f == t) ≡ false
      → keyed key t (without id facts) ≡ keyed key t facts
  keyed_others t id [] f r found other = refl
  keyed_others t id (g ∷ facts) f r found other = by (g.id == id) refl found (keyed_others t id facts f r.1)
    where
      by : (b : Bool) → (g.id == id) ≡ b → cond b (Some g) (fact_with facts id) ≡ Some f
          → (fact_with facts id ≡ Some f → (key f == t) ≡ false → keyed key t (without id facts) ≡ keyed key t facts) →
          keyed key t (cond (not b) (g ∷ without id facts) (without id facts)) ≡ keyed key t (g ∷ facts)
      by true e s rest =
          let same : g ≡ f = cc in
          let here : (key g == t) ≡ false = ap (λ (h : Fact). key h == t) same ∙ other in
          let above : FactsAbove id facts = subst (λ (n : ℕ). FactsAbove n facts) (eqb-true g.id id e) r.0 in
          ap (keyed key t) (missing_without id facts (missing_above id facts above)) ∙
          sym (keyed-cons t g facts ∙ ap (λ (c : Bool). cond c (g.id ∷ keyed key t facts) (keyed key t facts)) here)
      by false e s rest = keyed-cons t g (without id facts) ∙ ap (λ (xs : List ℕ). cond (key g == t) (g.id ∷ xs) xs) (rest s other) ∙ sym (keyed-cons t g facts)

  left_is : (t id : ℕ) (facts : List Fact) → FactsRising facts → left_by key (fact_with facts id) t (keyed key t facts) ≡ keyed key t (without id facts)
  left_is t id facts r = by (fact_with facts id) refl
    where
      by : (o : Option Fact) → fact_with facts id ≡ o → left_by key o t (keyed key t facts) ≡ keyed key t (without id facts)
      by None e = sym (ap (keyed key t) (missing_without id facts (not_found id facts e)))
      by (Some f) e = on (key f == t) refl
        where
          named : f.id ≡ id
          named = found_id id facts f e

          on : (c : Bool) → (key f == t) ≡ c → cond c (without_id f.id (keyed key t facts)) (keyed key t facts) ≡ keyed key t (without id facts)
          on true s = ap (λ (n : ℕ). without_id n (keyed key t facts)) named ∙ sym (keyed_without t id facts)
          on false s = sym (keyed_others t id facts f r e s)

  -- ---- an entity comes

  keyed_placed : (t : ℕ) (f : Fact) (facts : List Fact) → FactsRising facts → Missing f.id facts → keyed key t (placed f facts) ≡ cond (key f == t)
      (with_id f.id (keyed key t facts)) (keyed key t facts)
  keyed_placed t f [] r m = keyed-cons t f []
  keyed_placed t f (g ∷ facts) r m = by (nat_lt f.id g.id) refl (keyed_placed t f facts r.1 m.1)
    where
      first : nat_lt f.id g.id ≡ true → (c : Bool) → cond c (f.id ∷ keyed key t (g ∷ facts)) (keyed key t (g ∷ facts)) ≡ cond c
          (with_id f.id (keyed key t (g ∷ facts))) (keyed key t (g ∷ facts))
      first e true = let lt : f.id < g.id = grind arith in
          sym (with_first f.id (keyed key t (g ∷ facts)) (keyed_above f.id t (g ∷ facts) (lt, above_less f.id g.id facts (omega (arith, lt)) r.0)))
      first e false = refl

      behind : g.id < f.id → (b c : Bool) → keyed key t (placed f facts) ≡ cond c (with_id f.id (keyed key t facts)) (keyed key t facts) →
          cond b (g.id ∷ keyed key t (placed f facts)) (keyed key t (placed f facts)) ≡ cond c
          (with_id f.id (cond b (g.id ∷ keyed key t facts) (keyed key t facts))) (cond b (g.id ∷ keyed key t facts) (keyed key t facts))
      behind lt true true e = ap (λ (xs : List ℕ). g.id ∷ xs) e ∙ sym (with_behind f.id g.id (keyed key t facts) lt)
      behind lt true false e = ap (λ (xs : List ℕ). g.id ∷ xs) e
      behind lt false true e = e
      behind lt false false e = e

      by : (b : Bool) → nat_lt f.id g.id ≡ b → keyed key t (placed f facts) ≡ cond (key f == t) (with_id f.id (keyed key t facts)) (keyed key t facts) →
          keyed key t (cond b (f ∷ g ∷ facts) (g ∷ placed f facts)) ≡ cond (key f == t) (with_id f.id (keyed key t (g ∷ facts))) (keyed key t (g ∷ facts))
      by true e rest = keyed-cons t f (g ∷ facts) ∙ first e (key f == t)
      by false e rest =
          let le : g.id ≤ f.id = grind arith in
          let apart : g.id ≡ f.id → ⊥ = m.0 in
          let lt : g.id < f.id = omega (arith, le, apart) in
          keyed-cons t g (placed f facts) ∙ behind lt (key g == t) (key f == t) rest ∙
          sym (ap (λ (xs : List ℕ). cond (key f == t) (with_id f.id xs) xs) (keyed-cons t g facts))

  joined_is : (t id : ℕ) (o : Option Fact) (facts : List Fact) → ((f : Fact) → o ≡ Some f → f.id ≡ id) → FactsRising facts → Missing id facts
      → joined_by key o t (keyed key t facts) ≡ keyed key t (with_kept o facts)
  joined_is t id None facts named r m = refl
  joined_is t id (Some f) facts named r m = sym (keyed_placed t f facts r (subst (λ (n : ℕ). Missing n facts) (sym (named f refl)) m))

  -- ---- what is kept of one entity changes

  pub relisted : (id : ℕ) (before part : Option Fact) (facts after : List Fact) (old mid new : List Group) → FactsRising facts → AreGroups key facts old →
      before ≡ fact_with facts id → ((f : Fact) → part ≡ Some f → f.id ≡ id) → with_only id part facts ≡ after →
      ((t : ℕ) → listed t mid ≡ left_by key before t (listed t old)) → ((t : ℕ) → listed t new ≡ joined_by key part t (listed t mid)) → AreGroups key after new
  relisted id before part facts after old mid new r are found named is left joined t =
      joined t ∙ ap (joined_by key part t) (left t ∙ ap (left_by key before t) (are t) ∙ ap (λ (o : Option Fact). left_by key o t (keyed key t facts)) found ∙
      left_is t id facts r)
      ∙ joined_is t id part (without id facts) named (rising_without id facts r) (without_missing id facts) ∙ ap (keyed key t) is

  -- ---- several entities, one after another

  next_joined : (kind : Kind) (t : ℕ) (facts : List Fact) (k : ℕ) (d : Fact) → FactsRising facts → k < length facts →
      joined_by key (kept kind (get_or facts k d)) t (keyed key t (kept_of kind (take k facts))) ≡ keyed key t (kept_of kind (take (suc k) facts))
  next_joined kind t [] k d r lt = absurd (omega arith)
  next_joined kind t (g ∷ facts) zero d r lt = first (kept kind g)
    where
      first : (o : Option Fact) → joined_by key o t [] ≡ keyed key t (cons_option o [])
      first None = refl
      first (Some h) = sym (keyed-cons t h [])
  next_joined kind t (g ∷ facts) (suc k) d r lt = by (kept kind g) (kept kind (get_or facts k d)) (kept_id kind g) (kept_id kind (get_or facts k d))
      (next_joined kind t facts k d r.1 (omega arith))
    where
      later : g.id < (get_or facts k d).id
      later = above_at g.id facts k d r.0 (omega arith)

      on : (h f : Fact) → h.id < f.id → (b c : Bool) → cond c (with_id f.id (keyed key t (kept_of kind (take k facts))))
          (keyed key t (kept_of kind (take k facts))) ≡ keyed key t (kept_of kind (take (suc k) facts)) →
          cond c (with_id f.id (cond b (h.id ∷ keyed key t (kept_of kind (take k facts))) (keyed key t (kept_of kind (take k facts)))))
          (cond b (h.id ∷ keyed key t (kept_of kind (take k facts))) (keyed key t (kept_of kind (take k facts)))) ≡ cond b
          (h.id ∷ keyed key t (kept_of kind (take (suc k) facts))) (keyed key t (kept_of kind (take (suc k) facts)))
      on h f less true true e = with_behind f.id h.id (keyed key t (kept_of kind (take k facts))) less ∙ ap (λ (zs : List ℕ). h.id ∷ zs) e
      on h f less true false e = ap (λ (zs : List ℕ). h.id ∷ zs) e
      on h f less false true e = e
      on h f less false false e = e

      by : (o p : Option Fact) → ((h : Fact) → o ≡ Some h → h.id ≡ g.id) → ((f : Fact) → p ≡ Some f → f.id ≡ (get_or facts k d).id) →
          joined_by key p t (keyed key t (kept_of kind (take k facts))) ≡ keyed key t (kept_of kind (take (suc k) facts)) →
          joined_by key p t (keyed key t (cons_option o (kept_of kind (take k facts)))) ≡ keyed key t (cons_option o (kept_of kind (take (suc k) facts)))
      by None p one other e = e
      by (Some h) None one other e = keyed-cons t h (kept_of kind (take k facts)) ∙ ap (λ (zs : List ℕ). cond (key h == t) (h.id ∷ zs) zs) e ∙
          sym (keyed-cons t h (kept_of kind (take (suc k) facts)))
      by (Some h) (Some f) one other e =
          ap (joined_by key (Some f) t) (keyed-cons t h (kept_of kind (take k facts))) ∙ on h f (omega (arith, one h refl, other f refl, later)) (key h == t)
          (key f == t) e ∙ sym (keyed-cons t h (kept_of kind (take (suc k) facts)))

  pub one_more_grouped : (kind : Kind) (facts : List Fact) (k : ℕ) (f : Fact) (old new : List Group) → Ascend facts
      → AreGroups key (kept_of kind (take k facts)) old → k < length facts → f ≡ get_or facts k f →
      ((t : ℕ) → listed t new ≡ joined_by key (kept kind f) t (listed t old)) → AreGroups key (kept_of kind (take (k + 1) facts)) new
  one_more_grouped kind facts k f old new up are lt is joined t =
      let next : suc k ≡ k + 1 = omega arith in
      joined t ∙ ap (joined_by key (kept kind f) t) (are t)
      ∙ ap (λ (g : Fact). joined_by key (kept kind g) t (keyed key t (kept_of kind (take k facts)))) is ∙ next_joined kind t facts k f (facts_rising facts up)
      lt ∙ ap (λ (n : ℕ). keyed key t (kept_of kind (take n facts))) next
