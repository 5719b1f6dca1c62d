-- A note changes what is kept of one id, and nothing else.
use Rattle.sim_fact_lists.proofs.Common.{NoteFits, one_if, Option, option_map, Owned, part_noted, passes, placed, Range, refl, Some, subst, suc, sum_by-cons}
use Rattle.sim_fact_lists.proofs.Common.{[], aim_of, Aimed, All, All-head, All-tail, AllPairs-from_increasing, ap, arith, Ascend, Bool, Born, cases_eq, Census}
use Rattle.sim_fact_lists.proofs.Common.{cond, cons_option, count_by, eq-eqb, eqb-true, Fact, fact_with, false, get_or, Gone, Ground, id_in, id_of_fact, IfSome}
use Rattle.sim_fact_lists.proofs.Common.{inl, inr, keeps, kept, kept_of, Kind, Land, length, List, lt-ltb, map, Moved, nat_lt, ne_eqb, None, not, Note, noted}
use Rattle.sim_fact_lists.proofs.Common.{sym, true, Watch, with_changed, with_kept, with_only, without, zero, ℕ, ◌+◌, ◌<◌, ◌==◌, ◌∙◌, ◌∷◌, ◌≡◌, ◌≤◌}
use Rattle.sim_system.proofs.Facts.{kept_id, placed_behind}

-- Facts whose ids ascend, by recursion: what is found, taken out and put in place.

-- all ids are above a number
abbrev pub Above : ℕ → List Fact → Type 0
Above n [] = Unit {0}
Above n (f ∷ facts) = (n < f.id) × Above n facts

-- each id is below all later ones
abbrev pub Rising : List Fact → Type 0
Rising [] = Unit {0}
Rising (f ∷ facts) = Above f.id facts × Rising facts

-- no fact has this id
abbrev pub Missing : ℕ → List Fact → Type 0
Missing id [] = Unit {0}
Missing id (f ∷ facts) = (f.id ≡ id → ⊥) × Missing id facts

-- ---- the two ways to say that ids ascend

above_by : (n : ℕ) (facts : List Fact) → ((k : ℕ) → k < length (map id_of_fact facts) → n < get_or (map id_of_fact facts) k 0) → Above n facts
above_by n [] h = tt
above_by n (f ∷ facts) h = (h zero (omega arith), above_by n facts (λ k lt. h (suc k) (omega arith)))

rising_by : (facts : List Fact) → ((i j : ℕ) → i < j → j < length (map id_of_fact facts) → get_or (map id_of_fact facts) i 0 < get_or (map id_of_fact facts) j
    0) → Rising facts
rising_by [] p = tt
rising_by (f ∷ facts) p = (
  above_by f.id facts (λ k lt. p zero (suc k) (omega arith) (omega arith)),
  rising_by facts (λ i j before within. p (suc i) (suc j) (omega arith) (omega arith)),
)

pub rising : (facts : List Fact) → Ascend facts → Rising facts
rising facts up = rising_by facts (λ i j before within. AllPairs-from_increasing (map id_of_fact facts) up i j 0 before within)

steps_up : (facts : List Fact) → Rising facts → (k : ℕ) → suc k < length (map id_of_fact facts) → get_or (map id_of_fact facts) k 0 < get_or
    (map id_of_fact facts) (suc k) 0
steps_up [] r k lt = absurd (omega arith)
steps_up (f ∷ []) r k lt = absurd (omega arith)
steps_up (f ∷ g ∷ facts) r zero lt = r.0.0
steps_up (f ∷ g ∷ facts) r (suc k) lt = steps_up (g ∷ facts) r.1 k (omega arith)

pub ascends : (facts : List Fact) → Rising facts → Ascend facts
ascends facts r k lt =
    let next : suc k ≡ k + 1 = omega arith in
    subst (λ (n : ℕ). get_or (map id_of_fact facts) k 0 < get_or (map id_of_fact facts) n 0) next (steps_up facts r k (omega arith))

-- ---- numbers below all ids

pub above_less : (m n : ℕ) (facts : List Fact) → m ≤ n → Above n facts → Above m facts
above_less m n [] le a = tt
above_less m n (f ∷ facts) le a = (omega (arith, a.0), above_less m n facts le a.1)

pub above_at : (n : ℕ) (facts : List Fact) (k : ℕ) (d : Fact) → Above n facts → k < length facts → n < (get_or facts k d).id
above_at n [] k d a lt = absurd (omega arith)
above_at n (f ∷ facts) zero d a lt = a.0
above_at n (f ∷ facts) (suc k) d a lt = above_at n facts k d a.1 (omega arith)

pub missing_above : (id : ℕ) (facts : List Fact) → Above id facts → Missing id facts
missing_above id [] a = tt
missing_above id (f ∷ facts) a = let first : id < f.id = a.0 in ((λ e. omega (arith, first)), missing_above id facts a.1)

above_without : (n id : ℕ) (facts : List Fact) → Above n facts → Above n (without id facts)
above_without n id [] a = tt
above_without n id (f ∷ facts) a = by (not (f.id == id)) (above_without n id facts a.1)
  where
    by : (b : Bool) → Above n (without id facts) → Above n (cond b (f ∷ without id facts) (without id facts))
    by true rest = (a.0, rest)
    by false rest = rest

above_placed : (n : ℕ) (f : Fact) (facts : List Fact) → n < f.id → Above n facts → Above n (placed f facts)
above_placed n f [] lt a = (lt, tt)
above_placed n f (g ∷ facts) lt a = by (nat_lt f.id g.id) (above_placed n f facts lt a.1)
  where
    by : (b : Bool) → Above n (placed f facts) → Above n (cond b (f ∷ g ∷ facts) (g ∷ placed f facts))
    by true rest = (lt, a)
    by false rest = (a.0, rest)

-- ---- what is missing

pub missing_found : (id : ℕ) (facts : List Fact) → Missing id facts → fact_with facts id ≡ None
missing_found id [] m = refl
missing_found id (f ∷ facts) m = let other : (f.id == id) ≡ false = ne_eqb f.id id m.0 in rw other (missing_found id facts m.1)

pub missing_without : (id : ℕ) (facts : List Fact) → Missing id facts → without id facts ≡ facts
missing_without id [] m = refl
missing_without id (f ∷ facts) m = let other : (f.id == id) ≡ false = ne_eqb f.id id m.0 in
    rw other (ap (λ (fs : List Fact). f ∷ fs) (missing_without id facts m.1))

pub missing_changed : (id : ℕ) (h : Fact → Fact) (facts : List Fact) → Missing id facts → with_changed id h facts ≡ facts
missing_changed id h [] m = refl
missing_changed id h (f ∷ facts) m = let other : (f.id == id) ≡ false = ne_eqb f.id id m.0 in
    rw other (ap (λ (fs : List Fact). f ∷ fs) (missing_changed id h facts m.1))

pub not_found : (id : ℕ) (facts : List Fact) → fact_with facts id ≡ None → Missing id facts
not_found id [] e = tt
not_found id (f ∷ facts) e = by (f.id == id) refl e (not_found id facts)
  where
    by : (b : Bool) → (f.id == id) ≡ b → cond b (Some f) (fact_with facts id) ≡ None → (fact_with facts id ≡ None → Missing id facts) → Missing id (f ∷ facts)
    by true t s rest = absurd (cc)
    by false t s rest = ((λ same. let yes : (f.id == id) ≡ true = eq-eqb f.id id same in absurd (cc)), rest s)

pub without_missing : (id : ℕ) (facts : List Fact) → Missing id (without id facts)
without_missing id [] = tt
without_missing id (f ∷ facts) = by (f.id == id) refl (without_missing id facts)
  where
    by : (b : Bool) → (f.id == id) ≡ b → Missing id (without id facts) → Missing id (cond (not b) (f ∷ without id facts) (without id facts))
    by true e rest = rest
    by false e rest = ((λ same. let yes : (f.id == id) ≡ true = eq-eqb f.id id same in absurd (cc)), rest)

-- ---- what is found

pub found_id : (id : ℕ) (facts : List Fact) (f : Fact) → fact_with facts id ≡ Some f → f.id ≡ id
found_id id [] f e = absurd (cc)
found_id id (g ∷ facts) f e = by (g.id == id) refl e (found_id id facts f)
  where
    by : (b : Bool) → (g.id == id) ≡ b → cond b (Some g) (fact_with facts id) ≡ Some f → (fact_with facts id ≡ Some f → f.id ≡ id) → f.id ≡ id
    by true t s rest = let same : g ≡ f = cc in sym (ap id_of_fact same) ∙ eqb-true g.id id t
    by false t s rest = rest s

pub found_above : (n id : ℕ) (facts : List Fact) (f : Fact) → Above n facts → fact_with facts id ≡ Some f → n < id
found_above n id [] f a e = absurd (cc)
found_above n id (g ∷ facts) f a e = by (g.id == id) refl e (found_above n id facts f a.1)
  where
    by : (b : Bool) → (g.id == id) ≡ b → cond b (Some g) (fact_with facts id) ≡ Some f → (fact_with facts id ≡ Some f → n < id) → n < id
    by true t s rest = let same : g.id ≡ id = eqb-true g.id id t in let first : n < g.id = a.0 in omega arith
    by false t s rest = rest s

-- ---- facts that still rise

pub rising_without : (id : ℕ) (facts : List Fact) → Rising facts → Rising (without id facts)
rising_without id [] r = tt
rising_without id (f ∷ facts) r = by (not (f.id == id)) (rising_without id facts r.1)
  where
    by : (b : Bool) → Rising (without id facts) → Rising (cond b (f ∷ without id facts) (without id facts))
    by true rest = (above_without f.id id facts r.0, rest)
    by false rest = rest

pub rising_placed : (f : Fact) (facts : List Fact) → Missing f.id facts → Rising facts → Rising (placed f facts)
rising_placed f [] m r = (tt, tt)
rising_placed f (g ∷ facts) m r = by (nat_lt f.id g.id) refl (rising_placed f facts m.1 r.1)
  where
    by : (b : Bool) → nat_lt f.id g.id ≡ b → Rising (placed f facts) → Rising (cond b (f ∷ g ∷ facts) (g ∷ placed f facts))
    by true e rest = let lt : f.id < g.id = grind arith in ((lt, above_less f.id g.id facts (omega arith) r.0), r)
    by false e rest =
        let other : g.id ≡ f.id → ⊥ = m.0 in
        let le : g.id ≤ f.id = grind arith in
        let lt : g.id < f.id = elim (cases_eq g.id f.id) [ inl same ↦ absurd (other same) | inr differ ↦ omega (arith, differ) ] in
        (above_placed g.id f facts lt r.0, rest)

above_changed : (n id : ℕ) (h : Fact → Fact) (facts : List Fact) → ((f : Fact) → (h f).id ≡ f.id) → Above n facts → Above n (with_changed id h facts)
above_changed n id h [] keeps a = tt
above_changed n id h (f ∷ facts) keeps a = by (f.id == id) (above_changed n id h facts keeps a.1)
  where
    by : (b : Bool) → Above n (with_changed id h facts) → Above n (cond b (h f) f ∷ with_changed id h facts)
    by true rest = (subst (λ (m : ℕ). n < m) (sym (keeps f)) a.0, rest)
    by false rest = (a.0, rest)

pub rising_changed : (id : ℕ) (h : Fact → Fact) (facts : List Fact) → ((f : Fact) → (h f).id ≡ f.id) → Rising facts → Rising (with_changed id h facts)
rising_changed id h [] keeps r = tt
rising_changed id h (f ∷ facts) keeps r = by (f.id == id) (rising_changed id h facts keeps r.1)
  where
    by : (b : Bool) → Rising (with_changed id h facts) → Rising (cond b (h f) f ∷ with_changed id h facts)
    by true rest = (subst (λ (m : ℕ). Above m (with_changed id h facts)) (sym (keeps f)) (above_changed f.id id h facts keeps r.0), rest)
    by false rest = (above_changed f.id id h facts keeps r.0, rest)

-- ---- all that is kept of one id

pub placed_first : (f : Fact) (facts : List Fact) → Above f.id facts → placed f facts ≡ f ∷ facts
placed_first f [] a = refl
placed_first f (g ∷ facts) a = let less : nat_lt f.id g.id ≡ true = lt-ltb f.id g.id a.0 in rw less refl

pub only_itself : (id : ℕ) (facts : List Fact) → Rising facts → with_only id (fact_with facts id) facts ≡ facts
only_itself id [] r = refl
only_itself id (f ∷ facts) r = by (f.id == id) refl (only_itself id facts r.1)
  where
    further : (o : Option Fact) → fact_with facts id ≡ o → with_kept o (f ∷ without id facts) ≡ f ∷ with_kept o (without id facts)
    further None e = refl
    further (Some g) e =
        let lt : f.id < id = found_above f.id id facts g r.0 e in
        let same : g.id ≡ id = found_id id facts g e in
        placed_behind g f (without id facts) (omega arith)

    by : (b : Bool) → (f.id == id) ≡ b → with_only id (fact_with facts id) facts ≡ facts →
        with_kept (cond b (Some f) (fact_with facts id)) (cond (not b) (f ∷ without id facts) (without id facts)) ≡ f ∷ facts
    by true e rest =
        let same : f.id ≡ id = eqb-true f.id id e in
        let stays : without id facts ≡ facts = missing_without id facts (missing_above id facts (subst (λ (n : ℕ). Above n facts) same r.0)) in
        ap (placed f) stays ∙ placed_first f facts r.0
    by false e rest = further (fact_with facts id) refl ∙ ap (λ (fs : List Fact). f ∷ fs) rest

-- what holds of all holds of the one that is found
pub found_all : (P : Fact → Type 0) (id : ℕ) (facts : List Fact) (f : Fact) → All P facts → fact_with facts id ≡ Some f → P f
found_all P id [] f all e = absurd (cc)
found_all P id (g ∷ facts) f all e = by (g.id == id) e (All-head P g facts all) (found_all P id facts f (All-tail P g facts all))
  where
    by : (b : Bool) → cond b (Some g) (fact_with facts id) ≡ Some f → P g → (fact_with facts id ≡ Some f → P f) → P f
    by true s first rest = let same : g ≡ f = cc in subst P same first
    by false s first rest = rest s

-- the facts before and after agree but for one id
pub record OnlyAt (id : ℕ) (facts after : List Fact) : Type 0 where
  pub before : Rising facts
  pub later : Rising after
  pub same : without id after ≡ without id facts

pub after_is : (id : ℕ) (facts after : List Fact) → OnlyAt id facts after → with_only id (fact_with after id) facts ≡ after
after_is id facts after h = ap (with_kept (fact_with after id)) (sym h.same) ∙ only_itself id after h.later

-- ---- without an id

without_placed : (f : Fact) (facts : List Fact) → without f.id (placed f facts) ≡ without f.id facts
without_placed f [] = let itself : (f.id == f.id) ≡ true = eq-eqb f.id f.id refl in rw itself refl
without_placed f (g ∷ facts) = by (nat_lt f.id g.id) (without_placed f facts)
  where
    itself : (f.id == f.id) ≡ true
    itself = eq-eqb f.id f.id refl

    by : (b : Bool) → without f.id (placed f facts) ≡ without f.id facts → without f.id (cond b (f ∷ g ∷ facts) (g ∷ placed f facts)) ≡ without f.id (g ∷ facts)
    by true same = rw itself refl
    by false same = ap (λ (fs : List Fact). cond (not (g.id == f.id)) (g ∷ fs) fs) same

without_changed : (id : ℕ) (h : Fact → Fact) (facts : List Fact) → ((f : Fact) → (h f).id ≡ f.id) → without id (with_changed id h facts) ≡ without id facts
without_changed id h [] keeps = refl
without_changed id h (f ∷ facts) keeps = by (f.id == id) refl (without_changed id h facts keeps)
  where
    by : (b : Bool) → (f.id == id) ≡ b → without id (with_changed id h facts) ≡ without id facts → without id (cond b (h f) f ∷ with_changed id h facts) ≡ cond
        (not b) (f ∷ without id facts) (without id facts)
    by true e rest = let here : ((h f).id == id) ≡ true = eq-eqb (h f).id id (keeps f ∙ eqb-true f.id id e) in rw here rest
    by false e rest = rw e (ap (λ (fs : List Fact). f ∷ fs) rest)

without_twice : (id : ℕ) (facts : List Fact) → without id (without id facts) ≡ without id facts
without_twice id facts = missing_without id (without id facts) (without_missing id facts)

-- ---- each note

stays : (id : ℕ) (facts : List Fact) → Rising facts → OnlyAt id facts facts
stays id facts r = record { before = r; later = r; same = refl }

changed : (id : ℕ) (h : Fact → Fact) (facts : List Fact) → ((f : Fact) → (h f).id ≡ f.id) → Rising facts → OnlyAt id facts (with_changed id h facts)
changed id h facts keeps r = record { before = r; later = rising_changed id h facts keeps r; same = without_changed id h facts keeps }

left_out : (id : ℕ) (facts : List Fact) → Rising facts → OnlyAt id facts (without id facts)
left_out id facts r = record { before = r; later = rising_without id facts r; same = without_twice id facts }

-- what is kept of an id is put among facts without it
put_in : (id : ℕ) (o : Option Fact) (facts : List Fact) → ((f : Fact) → o ≡ Some f → f.id ≡ id) → Missing id facts → Rising facts
    → OnlyAt id facts (with_kept o facts)
put_in id None facts named m r = stays id facts r
put_in id (Some f) facts named m r =
    let same : f.id ≡ id = named f refl in
    record {
      before = r;
      later = rising_placed f facts (subst (λ (n : ℕ). Missing n facts) (sym same) m) r;
      same = subst (λ (n : ℕ). without n (placed f facts) ≡ without n facts) same (without_placed f facts);
    }

pub replaced : (id : ℕ) (o : Option Fact) (facts : List Fact) → ((f : Fact) → o ≡ Some f → f.id ≡ id) → Rising facts → OnlyAt id facts (with_only id o facts)
replaced id o facts named r =
    let h = put_in id o (without id facts) named (without_missing id facts) (rising_without id facts r) in
    record { before = r; later = h.later; same = h.same ∙ without_twice id facts }

-- what a kind keeps of facts that rise
pub above_kept : (kind : Kind) (n : ℕ) (facts : List Fact) → Above n facts → Above n (kept_of kind facts)
above_kept kind n [] a = tt
above_kept kind n (fact ∷ facts) a = by (kept kind fact) (kept_id kind fact) (above_kept kind n facts a.1)
  where
    by : (o : Option Fact) → ((f : Fact) → o ≡ Some f → f.id ≡ fact.id) → Above n (kept_of kind facts) → Above n (cons_option o (kept_of kind facts))
    by None named rest = rest
    by (Some f) named rest = (subst (λ (m : ℕ). n < m) (sym (named f refl)) a.0, rest)

pub rising_kept : (kind : Kind) (facts : List Fact) → Rising facts → Rising (kept_of kind facts)
rising_kept kind [] r = tt
rising_kept kind (fact ∷ facts) r = by (kept kind fact) (kept_id kind fact) (rising_kept kind facts r.1)
  where
    by : (o : Option Fact) → ((f : Fact) → o ≡ Some f → f.id ≡ fact.id) → Rising (kept_of kind facts) → Rising (cons_option o (kept_of kind facts))
    by None named rest = rest
    by (Some f) named rest = (subst (λ (m : ℕ). Above m (kept_of kind facts)) (sym (named f refl)) (above_kept kind fact.id facts r.0), rest)

pub noted_only : (kind : Kind) (land : Land) (facts : List Fact) (note : Note) → Rising facts → NoteFits kind land facts note
    → OnlyAt (id_in note) facts (noted kind facts note)
noted_only kind land facts (Born fact) r fits = put_in fact.id (kept kind fact) facts (kept_id kind fact) (not_found fact.id facts fits.agrees.1) r
noted_only kind land facts (Gone fact) r fits = left_out fact.id facts r
noted_only Ground land facts (Moved id from to) r fits = stays id facts r
noted_only Range land facts (Moved id from to) r fits = changed id (λ (f : Fact). record f { at = to }) facts (λ f. refl) r
noted_only Watch land facts (Moved id from to) r fits = stays id facts r
noted_only Census land facts (Moved id from to) r fits = stays id facts r
noted_only Ground land facts (Owned id from to) r fits = stays id facts r
noted_only Range land facts (Owned id from to) r fits = changed id (λ (f : Fact). record f { owner = to }) facts (λ f. refl) r
noted_only Watch land facts (Owned id from to) r fits = stays id facts r
noted_only Census land facts (Owned id from to) r fits = changed id (λ (f : Fact). record f { owner = to }) facts (λ f. refl) r
noted_only Ground land facts (Aimed id from to) r fits = stays id facts r
noted_only Range land facts (Aimed id from to) r fits = stays id facts r
noted_only Watch land facts (Aimed id from to) r fits = replaced id (kept Watch (aim_of id to)) facts (kept_id Watch (aim_of id to)) r
noted_only Census land facts (Aimed id from to) r fits = stays id facts r

-- ---- what is kept of the id after the note

found_placed : (f : Fact) (facts : List Fact) → Missing f.id facts → fact_with (placed f facts) f.id ≡ Some f
found_placed f [] m = let itself : (f.id == f.id) ≡ true = eq-eqb f.id f.id refl in rw itself refl
found_placed f (g ∷ facts) m = by (nat_lt f.id g.id) (found_placed f facts m.1)
  where
    by : (b : Bool) → fact_with (placed f facts) f.id ≡ Some f → fact_with (cond b (f ∷ g ∷ facts) (g ∷ placed f facts)) f.id ≡ Some f
    by true rest = let itself : (f.id == f.id) ≡ true = eq-eqb f.id f.id refl in rw itself refl
    by false rest = let other : (g.id == f.id) ≡ false = ne_eqb g.id f.id m.0 in rw other rest

pub found_put : (id : ℕ) (o : Option Fact) (facts : List Fact) → ((f : Fact) → o ≡ Some f → f.id ≡ id) → Missing id facts → fact_with (with_kept o facts) id ≡ o
found_put id None facts named m = missing_found id facts m
found_put id (Some f) facts named m =
    let same : f.id ≡ id = named f refl in
    subst (λ (n : ℕ). fact_with (placed f facts) n ≡ Some f) same (found_placed f facts (subst (λ (n : ℕ). Missing n facts) (sym same) m))

found_changed : (id : ℕ) (h : Fact → Fact) (facts : List Fact) → ((f : Fact) → (h f).id ≡ f.id) → fact_with (with_changed id h facts) id ≡ option_map h
    (fact_with facts id)
found_changed id h [] keeps = refl
found_changed id h (f ∷ facts) keeps = by (f.id == id) refl (found_changed id h facts keeps)
  where
    by : (b : Bool) → (f.id == id) ≡ b → fact_with (with_changed id h facts) id ≡ option_map h (fact_with facts id) →
        fact_with (cond b (h f) f ∷ with_changed id h facts) id ≡ option_map h (cond b (Some f) (fact_with facts id))
    by true e rest = let here : ((h f).id == id) ≡ true = eq-eqb (h f).id id (keeps f ∙ eqb-true f.id id e) in rw here refl
    by false e rest = rw e rest

if_named : (id : ℕ) (o : Option Fact) → ((f : Fact) → o ≡ Some f → f.id ≡ id) → IfSome o (λ (f : Fact). f.id ≡ id)
if_named id None named = tt
if_named id (Some f) named = named f refl

pub part_is : (kind : Kind) (land : Land) (facts : List Fact) (note : Note) → NoteFits kind land facts note → fact_with (noted kind facts note) (id_in note) ≡
    part_noted kind (fact_with facts (id_in note)) note
part_is kind land facts (Born fact) fits = found_put fact.id (kept kind fact) facts (kept_id kind fact) (not_found fact.id facts fits.agrees.1)
part_is kind land facts (Gone fact) fits = missing_found fact.id (without fact.id facts) (without_missing fact.id facts)
part_is Ground land facts (Moved id from to) fits = refl
part_is Range land facts (Moved id from to) fits = found_changed id (λ (f : Fact). record f { at = to }) facts (λ f. refl)
part_is Watch land facts (Moved id from to) fits = refl
part_is Census land facts (Moved id from to) fits = refl
part_is Ground land facts (Owned id from to) fits = refl
part_is Range land facts (Owned id from to) fits = found_changed id (λ (f : Fact). record f { owner = to }) facts (λ f. refl)
part_is Watch land facts (Owned id from to) fits = refl
part_is Census land facts (Owned id from to) fits = found_changed id (λ (f : Fact). record f { owner = to }) facts (λ f. refl)
part_is Ground land facts (Aimed id from to) fits = refl
part_is Range land facts (Aimed id from to) fits = refl
part_is Watch land facts (Aimed id from to) fits = found_put id (kept Watch (aim_of id to)) (without id facts) (kept_id Watch (aim_of id to))
    (without_missing id facts)
part_is Census land facts (Aimed id from to) fits = refl

-- what is put in place of an id after a note makes the list that the note makes
pub noted_is : (kind : Kind) (land : Land) (facts : List Fact) (note : Note) → Rising facts → NoteFits kind land facts note
    → with_only (id_in note) (part_noted kind (fact_with facts (id_in note)) note) facts ≡ noted kind facts note
noted_is kind land facts note r fits =
    ap (λ (o : Option Fact). with_only (id_in note) o facts) (sym (part_is kind land facts note fits)) ∙ after_is (id_in note) facts (noted kind facts note)
    (noted_only kind land facts note r fits)

-- the part is of the id
pub part_named : (kind : Kind) (id : ℕ) (o : Option Fact) (note : Note) → id ≡ id_in note → ((f : Fact) → o ≡ Some f → f.id ≡ id)
    → IfSome (part_noted kind o note) (λ (f : Fact). f.id ≡ id)
part_named kind id o (Born fact) e named = by (kept kind fact) (kept_id kind fact)
  where
    by : (p : Option Fact) → ((f : Fact) → p ≡ Some f → f.id ≡ fact.id) → IfSome p (λ (f : Fact). f.id ≡ id)
    by None h = tt
    by (Some f) h = h f refl ∙ sym e
part_named kind id o (Gone fact) e named = tt
part_named Ground id o (Moved i from to) e named = if_named id o named
part_named Range id None (Moved i from to) e named = tt
part_named Range id (Some f) (Moved i from to) e named = named f refl
part_named Watch id o (Moved i from to) e named = if_named id o named
part_named Census id o (Moved i from to) e named = if_named id o named
part_named Ground id o (Owned i from to) e named = if_named id o named
part_named Range id None (Owned i from to) e named = tt
part_named Range id (Some f) (Owned i from to) e named = named f refl
part_named Watch id o (Owned i from to) e named = if_named id o named
part_named Census id None (Owned i from to) e named = tt
part_named Census id (Some f) (Owned i from to) e named = named f refl
part_named Ground id o (Aimed i from to) e named = if_named id o named
part_named Range id o (Aimed i from to) e named = if_named id o named
part_named Watch id o (Aimed i from to) e named = by (kept Watch (aim_of i to)) (kept_id Watch (aim_of i to))
  where
    by : (p : Option Fact) → ((f : Fact) → p ≡ Some f → f.id ≡ i) → IfSome p (λ (f : Fact). f.id ≡ id)
    by None h = tt
    by (Some f) h = h f refl ∙ sym e
part_named Census id o (Aimed i from to) e named = if_named id o named

-- ---- counts

count_without : (p : Fact → Bool) (id : ℕ) (facts : List Fact) → Rising facts → count_by p facts ≡ count_by p (without id facts) +
    one_if (passes p (fact_with facts id))
count_without p id [] r = omega arith
count_without p id (f ∷ facts) r = by (f.id == id) refl (count_without p id facts r.1)
  where
    by : (b : Bool) → (f.id == id) ≡ b → count_by p facts ≡ count_by p (without id facts) + one_if (passes p (fact_with facts id)) →
        count_by p (f ∷ facts) ≡ count_by p (cond (not b) (f ∷ without id facts) (without id facts)) + one_if (passes p (cond b (Some f) (fact_with facts id)))
    by true e rest =
        let same : f.id ≡ id = eqb-true f.id id e in
        let m : Missing id facts = missing_above id facts (subst (λ (n : ℕ). Above n facts) same r.0) in
        let stays = missing_without id facts m in
        rw stays (let more : count_by p (f ∷ facts) ≡ cond (p f) 1 0 + count_by p facts = sum_by-cons (λ (g : Fact). cond (p g) 1 0) f facts in omega arith)
    by false e rest =
        let more : count_by p (f ∷ facts) ≡ cond (p f) 1 0 + count_by p facts = sum_by-cons (λ (g : Fact). cond (p g) 1 0) f facts in
        let fewer : count_by p (f ∷ without id facts) ≡ cond (p f) 1 0 + count_by p (without id facts) = sum_by-cons (λ (g : Fact). cond (p g) 1 0) f
        (without id facts) in
        omega arith

pub count_after : (p : Fact → Bool) (id : ℕ) (facts after : List Fact) → OnlyAt id facts after → count_by p after + one_if (passes p (fact_with facts id)) ≡
    count_by p facts + one_if (passes p (fact_with after id))
count_after p id facts after h =
    let old = count_without p id facts h.before in
    let new = count_without p id after h.later in
    let same : count_by p (without id after) ≡ count_by p (without id facts) = ap (count_by p) h.same in
    omega arith
