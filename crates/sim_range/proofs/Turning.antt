-- Ascending ids when one comes or goes.
use Rattle.sim_fact_lists.proofs.Ids.{Above, above_at, above_by, absent_there, inserted_there}
use Rattle.sim_range.proofs.Common.{[], ◌+◌, ◌<◌, ◌==◌, ◌∙◌, ◌∷◌, ◌≡◌, ◌≤◌, AllPairs-from_increasing, ap, arith, Bool, cases_eq, cases_lt, cond, eq-eqb, Err}
use Rattle.sim_range.proofs.Common.{false, get_or, inl, inr, insert, IsBinarySearchResult, IsStrictlyIncreasing, le-ltb, length, List, nat_cmp, nat_lt, ne_eqb}
use Rattle.sim_range.proofs.Common.{Ok, refl, remove, searched, subst, suc, sym, true, with_behind, with_first, with_id, without_id, zero, ℕ}

-- each number is below all later ones
abbrev pub Ups : List ℕ → Type 0
Ups [] = Unit {0}
Ups (x ∷ xs) = Above x xs × Ups xs

ups_by : (xs : List ℕ) → ((i j : ℕ) → i < j → j < length xs → get_or xs i 0 < get_or xs j 0) → Ups xs
ups_by [] p = tt
ups_by (x ∷ xs) p = (
  above_by x xs (λ k lt. p zero (suc k) (omega arith) (omega arith)),
  ups_by xs (λ i j before within. p (suc i) (suc j) (omega arith) (omega arith)),
)

pub ups : (xs : List ℕ) → IsStrictlyIncreasing xs → Ups xs
ups xs up = ups_by xs (λ i j before within. AllPairs-from_increasing xs up i j 0 before within)

steps_up : (xs : List ℕ) → Ups xs → (k : ℕ) → suc k < length xs → get_or xs k 0 < get_or xs (suc k) 0
steps_up [] u k lt = absurd (omega arith)
steps_up (x ∷ []) u k lt = absurd (omega arith)
steps_up (x ∷ y ∷ xs) u zero lt = u.0.0
steps_up (x ∷ y ∷ xs) u (suc k) lt = steps_up (y ∷ xs) u.1 k (omega arith)

pub increasing : (xs : List ℕ) → Ups xs → IsStrictlyIncreasing xs
increasing xs u k lt =
    let next : suc k ≡ k + 1 = omega arith in
    subst (λ (n : ℕ). get_or xs k 0 < get_or xs n 0) next (steps_up xs u k (omega arith))

pub rises : (xs : List ℕ) → IsStrictlyIncreasing xs → (i j : ℕ) → i ≤ j → j < length xs → get_or xs i 0 ≤ get_or xs j 0
rises xs up i j le lt =
    elim (cases_lt i j) [
      | inl before ↦ (let h = AllPairs-from_increasing xs up i j 0 before lt in omega (arith, h))
      | inr same ↦ (let e : i ≡ j = omega arith in omega (arith, ap (λ (n : ℕ). get_or xs n 0) e))
    ]

above_less : (m n : ℕ) (xs : List ℕ) → m ≤ n → Above n xs → Above m xs
above_less m n [] le a = tt
above_less m n (x ∷ xs) le a = (omega (arith, a.0), above_less m n xs le a.1)

without_above : (id : ℕ) (xs : List ℕ) → Above id xs → without_id id xs ≡ xs
without_above id [] a = refl
without_above id (x ∷ xs) a =
    let other : (x == id) ≡ false = ne_eqb x id (λ e. omega (arith, a.0)) in
    rw other (ap (λ (ys : List ℕ). x ∷ ys) (without_above id xs a.1))

-- ---- it comes

pub come_again : (xs : List ℕ) (id at : ℕ) → Ups xs → at < length xs → get_or xs at 0 ≡ id → xs ≡ with_id id xs
come_again [] id at u lt is = absurd (omega arith)
come_again (x ∷ xs) id zero u lt is =
    let not_less : nat_lt id x ≡ false = le-ltb id x (omega arith) in
    let not_more : nat_lt x id ≡ false = le-ltb x id (omega arith) in
    rw not_less (rw not_more refl)
come_again (x ∷ xs) id (suc at) u lt is =
    let below : x < get_or xs at 0 = above_at x xs at u.0 (omega arith) in
    ap (λ (ys : List ℕ). x ∷ ys) (come_again xs id at u.1 (omega arith) is) ∙ sym (with_behind id x xs (omega arith))

-- ---- it goes

pub go_there : (xs : List ℕ) (id at : ℕ) → Ups xs → at < length xs → get_or xs at 0 ≡ id → remove xs at ≡ without_id id xs
go_there [] id at u lt is = absurd (omega arith)
go_there (x ∷ xs) id zero u lt is =
    let here : (x == id) ≡ true = eq-eqb x id is in
    rw here (sym (without_above id xs (subst (λ (n : ℕ). Above n xs) is u.0)))
go_there (x ∷ xs) id (suc at) u lt is =
    let below : x < get_or xs at 0 = above_at x xs at u.0 (omega arith) in
    let other : (x == id) ≡ false = ne_eqb x id (λ e. omega arith) in
    rw other (ap (λ (ys : List ℕ). x ∷ ys) (go_there xs id at u.1 (omega arith) is))

-- ---- it goes and comes again

pub with_without : (id : ℕ) (xs : List ℕ) → Ups xs → with_id id (without_id id xs) ≡ with_id id xs
with_without id [] u = refl
with_without id (x ∷ xs) u =
    elim (cases_eq x id) [
      | inl same ↦
          (let here : (x == id) ≡ true = eq-eqb x id same in
          let above : Above id xs = subst (λ (n : ℕ). Above n xs) same u.0 in
          rw here (ap (with_id id) (without_above id xs above) ∙ with_first id xs above ∙ ap (λ (n : ℕ). n ∷ xs) (sym same) ∙
          come_again (x ∷ xs) id zero u (omega arith) same))
      | inr differ ↦
          (let other : (x == id) ≡ false = ne_eqb x id (λ e. omega (arith, differ, e)) in
          rw other (elim (cases_lt x id) [
            | inl less ↦ with_behind id x (without_id id xs) less ∙ ap (λ (ys : List ℕ). x ∷ ys) (with_without id xs u.1) ∙ sym (with_behind id x xs less)
            | inr more ↦ (let lt : id < x = omega (arith, more, differ) in ap (λ (ys : List ℕ). with_id id (x ∷ ys))
                (without_above id xs (above_less id x xs (omega (arith, lt)) u.0)))
          ]))
    ]

pub grows : (xs : List ℕ) (at id : ℕ) → at ≤ length xs → insert xs at id ≡ xs → ⊥
grows [] zero id le e = absurd (cc)
grows [] (suc at) id le e = absurd (omega arith)
grows (x ∷ xs) at id le e = by at le (ap (λ (ys : List ℕ). length ys) e)
  where
    longer : (ys : List ℕ) (n : ℕ) → n ≤ length ys → length (insert ys n id) ≡ suc (length ys)
    longer [] zero le = refl
    longer [] (suc n) le = absurd (omega arith)
    longer (y ∷ ys) zero le = refl
    longer (y ∷ ys) (suc n) le = ap suc (longer ys n (omega arith))

    by : (n : ℕ) → n ≤ length (x ∷ xs) → length (insert (x ∷ xs) n id) ≡ length (x ∷ xs) → ⊥
    by n le same = let more = longer (x ∷ xs) n le in absurd (omega (arith, same, more))

-- ---- where a search by halves finds it, or where it belongs

module _ (lent xs : List ℕ) (id at : ℕ) (is : lent ≡ xs) (up : IsStrictlyIncreasing xs) where
  stands : IsBinarySearchResult (λ (y : ℕ). nat_cmp y id) lent (Ok at) → (at < length xs) × (get_or xs at 0 ≡ id)
  stands h = searched xs id (Ok at) (subst (λ (ys : List ℕ). IsBinarySearchResult (λ (y : ℕ). nat_cmp y id) ys (Ok at)) is h) (rises xs up)

  belongs : IsBinarySearchResult (λ (y : ℕ). nat_cmp y id) lent (Err at) → (at ≤ length xs) × ((k : ℕ) → k < at → get_or xs k 0 < id)
      × ((k : ℕ) → at ≤ k → k < length xs → id < get_or xs k 0)
  belongs h = searched xs id (Err at) (subst (λ (ys : List ℕ). IsBinarySearchResult (λ (y : ℕ). nat_cmp y id) ys (Err at)) is h) (rises xs up)

  pub comes_again : IsBinarySearchResult (λ (y : ℕ). nat_cmp y id) lent (Ok at) → xs ≡ with_id id xs
  comes_again h = let there = stands h in come_again xs id at (ups xs up) there.0 there.1

  pub comes_new : IsBinarySearchResult (λ (y : ℕ). nat_cmp y id) lent (Err at) → insert xs at id ≡ with_id id xs
  comes_new h = let there = belongs h in inserted_there xs id at there.0 there.1 there.2

  -- it is not there, so that the list grows
  pub is_new : IsBinarySearchResult (λ (y : ℕ). nat_cmp y id) lent (Err at) → with_id id xs ≡ xs → ⊥
  is_new h same = grows xs at id (belongs h).0 (comes_new h ∙ same)

  pub goes : IsBinarySearchResult (λ (y : ℕ). nat_cmp y id) lent (Ok at) → remove xs at ≡ without_id id xs
  goes h = let there = stands h in go_there xs id at (ups xs up) there.0 there.1

  pub goes_not : IsBinarySearchResult (λ (y : ℕ). nat_cmp y id) lent (Err at) → xs ≡ without_id id xs
  goes_not h = let there = belongs h in absent_there xs id at there.1 there.2

pub ok_ids : (a : Bool) (xs ys zs : List ℕ) → a ≡ true → zs ≡ cond a ys xs → zs ≡ ys
ok_ids a xs ys zs ok is = is ∙ ap (λ (c : Bool). cond c ys xs) ok
