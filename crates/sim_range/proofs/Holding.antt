-- The facts in a bucket when one of all facts changes.
use Rattle.sim_range.proofs.Common.{None, Option, refl, Above, above_at, above_less, ap, arith, bucket_key, changed_at, eq-eqb, Fact, fact_with, found_above}
use Rattle.sim_range.proofs.Common.{held_in, is_in, Missing, missing_without, ne_eqb, part_in, placed, placed_first, Rising, rising_without, sym}
use Rattle.sim_range.proofs.Common.{placed_behind, with_only, without, ◌∙◌}
use Rattle.sim_range.proofs.Common.{◌≡◌, ℕ, zero, suc, ◌+◌, ◌<◌, Bool, true, false, cond, not, ◌&&◌, List, [], ◌∷◌, length, get_or, take, nat_lt, ◌==◌, Some}

-- ---- one is taken out, or put in place

held_without : (k id : ℕ) (facts : List Fact) → held_in k (without id facts) ≡ without id (held_in k facts)
held_without k id [] = refl
held_without k id (f ∷ facts) = by (bucket_key f == k) (not (f.id == id)) refl refl (held_without k id facts)
  where
    by : (b n : Bool) → (bucket_key f == k) ≡ b → not (f.id == id) ≡ n → held_in k (without id facts) ≡ without id (held_in k facts) →
        held_in k (cond n (f ∷ without id facts) (without id facts)) ≡ without id (cond b (f ∷ held_in k facts) (held_in k facts))
    by true true e m rest = rw e (rw m (ap (λ (fs : List Fact). f ∷ fs) rest))
    by true false e m rest = rw m rest
    by false true e m rest = rw e rest
    by false false e m rest = rest

above_held : (n k : ℕ) (facts : List Fact) → Above n facts → Above n (held_in k facts)
above_held n k [] a = tt
above_held n k (f ∷ facts) a = by (bucket_key f == k) (above_held n k facts a.1)
  where
    by : (b : Bool) → Above n (held_in k facts) → Above n (cond b (f ∷ held_in k facts) (held_in k facts))
    by true rest = (a.0, rest)
    by false rest = rest

held_placed : (k : ℕ) (f : Fact) (facts : List Fact) → Rising facts → held_in k (placed f facts) ≡ cond (bucket_key f == k) (placed f (held_in k facts))
    (held_in k facts)
held_placed k f [] r = refl
held_placed k f (g ∷ facts) r = by (nat_lt f.id g.id) refl (held_placed k f facts r.1)
  where
    behind : (fs : List Fact) → nat_lt f.id g.id ≡ false → placed f (g ∷ fs) ≡ g ∷ placed f fs
    behind fs e = rw e refl

    on : nat_lt f.id g.id ≡ false → (b c : Bool) → held_in k (placed f facts) ≡ cond c (placed f (held_in k facts)) (held_in k facts) →
        cond b (g ∷ held_in k (placed f facts)) (held_in k (placed f facts)) ≡ cond c (placed f (cond b (g ∷ held_in k facts) (held_in k facts)))
        (cond b (g ∷ held_in k facts) (held_in k facts))
    on e true true rest = ap (λ (fs : List Fact). g ∷ fs) rest ∙ sym (behind (held_in k facts) e)
    on e true false rest = ap (λ (fs : List Fact). g ∷ fs) rest
    on e false true rest = rest
    on e false false rest = rest

    by : (b : Bool) → nat_lt f.id g.id ≡ b → held_in k (placed f facts) ≡ cond (bucket_key f == k) (placed f (held_in k facts)) (held_in k facts) →
        held_in k (cond b (f ∷ g ∷ facts) (g ∷ placed f facts)) ≡ cond (bucket_key f == k) (placed f (held_in k (g ∷ facts))) (held_in k (g ∷ facts))
    by true e rest =
        let lt : f.id < g.id = grind arith in
        let above : Above f.id (g ∷ facts) = (lt, above_less f.id g.id facts (omega (arith, lt)) r.0) in
        ap (λ (fs : List Fact). cond (bucket_key f == k) fs (held_in k (g ∷ facts)))
        (sym (placed_first f (held_in k (g ∷ facts)) (above_held f.id k (g ∷ facts) above)))
    by false e rest = on e (bucket_key g == k) (bucket_key f == k) rest

only_held : (k id : ℕ) (part : Option Fact) (facts : List Fact) → Rising facts → held_in k (with_only id part facts) ≡ with_only id (part_in k part)
    (held_in k facts)
only_held k id None facts r = held_without k id facts
only_held k id (Some f) facts r = held_placed k f (without id facts) (rising_without id facts r) ∙ by (bucket_key f == k)
  where
    by : (b : Bool) → cond b (placed f (held_in k (without id facts))) (held_in k (without id facts)) ≡ with_only id (cond b (Some f) None) (held_in k facts)
    by true = ap (placed f) (held_without k id facts)
    by false = held_without k id facts

-- ---- one that is in another bucket, if it is kept

missing_held : (k id : ℕ) (facts : List Fact) → Rising facts → ((f : Fact) → fact_with facts id ≡ Some f → (bucket_key f == k) ≡ false)
    → Missing id (held_in k facts)
missing_held k id [] r h = tt
missing_held k id (g ∷ facts) r h = by (bucket_key g == k) refl (missing_held k id facts r.1 later)
  where
    later : (f : Fact) → fact_with facts id ≡ Some f → (bucket_key f == k) ≡ false
    later f found =
        let lt : g.id < id = found_above g.id id facts f r.0 found in
        let other : (g.id == id) ≡ false = ne_eqb g.id id (λ e. omega (arith, lt)) in
        h f (rw other found)

    here : g.id ≡ id → (bucket_key g == k) ≡ false
    here same = let it : (g.id == id) ≡ true = eq-eqb g.id id same in h g (rw it refl)

    by : (b : Bool) → (bucket_key g == k) ≡ b → Missing id (held_in k facts) → Missing id (cond b (g ∷ held_in k facts) (held_in k facts))
    by true e rest = ((λ same. let no = here same in absurd (cc)), rest)
    by false e rest = rest

gone_from : (k id : ℕ) (before : Option Fact) (facts : List Fact) → Rising facts → before ≡ fact_with facts id
    → cond (is_in k before && true) (without id (held_in k facts)) (held_in k facts) ≡ without id (held_in k facts)
gone_from k id None facts r found = sym (missing_without id (held_in k facts) (missing_held k id facts r (λ f is. let no = found ∙ is in absurd (cc))))
gone_from k id (Some f) facts r found = by (bucket_key f == k) refl
  where
    by : (b : Bool) → (bucket_key f == k) ≡ b → cond (b && true) (without id (held_in k facts)) (held_in k facts) ≡ without id (held_in k facts)
    by true e = refl
    by false e = sym (missing_without id (held_in k facts)
        (missing_held k id facts r (λ g is. let both = found ∙ is in let same : f ≡ g = cc in ap (λ (h : Fact). bucket_key h == k) (sym same) ∙ e)))

-- ---- what is kept of one changes

pub changed_is : (k id : ℕ) (before part : Option Fact) (facts : List Fact) → Rising facts → before ≡ fact_with facts id
    → changed_at k id before part (held_in k facts) ≡ held_in k (with_only id part facts)
changed_is k id before None facts r found = gone_from k id before facts r found ∙ sym (held_without k id facts)
changed_is k id before (Some f) facts r found = by (bucket_key f == k) refl
  where
    is : (b : Bool) → (bucket_key f == k) ≡ b → held_in k (with_only id (Some f) facts) ≡ with_only id (cond b (Some f) None) (held_in k facts)
    is b e = only_held k id (Some f) facts r ∙ ap (λ (c : Bool). with_only id (cond c (Some f) None) (held_in k facts)) e

    by : (b : Bool) → (bucket_key f == k) ≡ b → cond b (with_only id (Some f) (held_in k facts))
        (cond (is_in k before && not b) (without id (held_in k facts)) (held_in k facts)) ≡ held_in k (with_only id (Some f) facts)
    by true e = sym (is true e)
    by false e = gone_from k id before facts r found ∙ sym (is false e)

-- ---- several, one after another

pub next_only : (facts : List Fact) (k : ℕ) (d : Fact) → Rising facts → k < length facts → with_only (get_or facts k d).id (Some (get_or facts k d))
    (take k facts) ≡ take (suc k) facts
next_only [] k d r lt = absurd (omega arith)
next_only (g ∷ facts) zero d r lt = refl
next_only (g ∷ facts) (suc k) d r lt =
    let f = get_or facts k d in
    let above : g.id < (get_or facts k d).id = above_at g.id facts k d r.0 (omega arith) in
    let other : (g.id == (get_or facts k d).id) ≡ false = ne_eqb g.id f.id (λ e. omega (arith, above)) in
    rw other (placed_behind f g (without f.id (take k facts)) above ∙ ap (λ (fs : List Fact). g ∷ fs) (next_only facts k d r.1 (omega arith)))

pub next_missing : (facts : List Fact) (k : ℕ) (d : Fact) → Rising facts → k < length facts → fact_with (take k facts) (get_or facts k d).id ≡ None
next_missing [] k d r lt = absurd (omega arith)
next_missing (g ∷ facts) zero d r lt = refl
next_missing (g ∷ facts) (suc k) d r lt =
    let above : g.id < (get_or facts k d).id = above_at g.id facts k d r.0 (omega arith) in
    let other : (g.id == (get_or facts k d).id) ≡ false = ne_eqb g.id (get_or facts k d).id (λ e. omega (arith, above)) in
    rw other (next_missing facts k d r.1 (omega arith))

rising_take : (facts : List Fact) (k : ℕ) → Rising facts → Rising (take k facts)
rising_take [] zero r = tt
rising_take [] (suc k) r = tt
rising_take (f ∷ facts) zero r = tt
rising_take (f ∷ facts) (suc k) r = (above_take f.id facts k r.0, rising_take facts k r.1)
  where
    above_take : (n : ℕ) (fs : List Fact) (j : ℕ) → Above n fs → Above n (take j fs)
    above_take n [] zero a = tt
    above_take n [] (suc j) a = tt
    above_take n (g ∷ fs) zero a = tt
    above_take n (g ∷ fs) (suc j) a = (a.0, above_take n fs j a.1)

pub one_more_held : (k i : ℕ) (f : Fact) (facts : List Fact) → Rising facts → i < length facts → f ≡ get_or facts i f
    → changed_at k f.id None (Some f) (held_in k (take i facts)) ≡ held_in k (take (i + 1) facts)
one_more_held k i f facts r lt is =
    let next : suc i ≡ i + 1 = omega arith in
    let missing : None ≡ fact_with (take i facts) f.id = sym (ap (λ (g : Fact). fact_with (take i facts) g.id) is ∙ next_missing facts i f r lt) in
    changed_is k f.id None (Some f) (take i facts) (rising_take facts i r) missing
    ∙ ap (held_in k) (ap (λ (g : Fact). with_only g.id (Some g) (take i facts)) is ∙ next_only facts i f r lt ∙ ap (λ (n : ℕ). take n facts) next)
