-- Ids that ascend: where one stands or belongs, and the list with one fewer or one more.
use Rattle.sim_fact_lists.proofs.Common.{IdStands, inl, inr, IsBinarySearchResult, IsStrictlyIncreasing, le-ltb, lt-ltb, nat_cmp, ne_eqb, searched, subst, sym}
use Rattle.sim_fact_lists.proofs.Common.{MatchResult, Ok, Err, insert, remove, Result, refl, AllPairs-from_increasing, ap, arith, cases_lt, eq-eqb, IdBelongs}
use Rattle.sim_fact_lists.proofs.Common.{with_id, without_id, ◌∙◌}
use Rattle.sim_fact_lists.proofs.Common.{◌≡◌, ℕ, zero, suc, ◌+◌, ◌-◌, ◌<◌, ◌≤◌, Bool, true, false, cond, not, List, [], ◌∷◌, length, get_or, nat_lt, ◌==◌}

-- all of the ids are above a number
abbrev pub Above : ℕ → List ℕ → Type 0
Above n [] = Unit {0}
Above n (m ∷ ms) = (n < m) × Above n ms

-- each id is below all later ones
abbrev pub Rising : List ℕ → Type 0
Rising [] = Unit {0}
Rising (x ∷ xs) = Above x xs × Rising xs

-- ---- the two ways to say that ids ascend

pub above_by : (n : ℕ) (xs : List ℕ) → ((k : ℕ) → k < length xs → n < get_or xs k 0) → Above n xs
above_by n [] h = tt
above_by n (x ∷ xs) h = (h zero (omega arith), above_by n xs (λ k lt. h (suc k) (omega arith)))

rising_by : (xs : List ℕ) → ((i j : ℕ) → i < j → j < length xs → get_or xs i 0 < get_or xs j 0) → Rising xs
rising_by [] h = tt
rising_by (x ∷ xs) h = (
  above_by x xs (λ k lt. h zero (suc k) (omega arith) (omega arith)),
  rising_by xs (λ i j before lt. h (suc i) (suc j) (omega arith) (omega arith)),
)

pub rising : (xs : List ℕ) → IsStrictlyIncreasing xs → Rising xs
rising xs up = rising_by xs (λ i j before lt. AllPairs-from_increasing xs up i j 0 before lt)

steps_up : (xs : List ℕ) → Rising xs → (k : ℕ) → suc k < length xs → get_or xs k 0 < get_or xs (suc k) 0
steps_up [] r k lt = absurd (omega arith)
steps_up (x ∷ []) r k lt = absurd (omega arith)
steps_up (x ∷ y ∷ xs) r zero lt = r.0.0
steps_up (x ∷ y ∷ xs) r (suc k) lt = steps_up (y ∷ xs) r.1 k (omega arith)

pub ascends : (xs : List ℕ) → Rising xs → IsStrictlyIncreasing xs
ascends xs r k lt =
    let next : suc k ≡ k + 1 = omega arith in
    subst (λ (n : ℕ). get_or xs k 0 < get_or xs n 0) next (steps_up xs r k (omega arith))

pub above_at : (n : ℕ) (xs : List ℕ) (k : ℕ) → Above n xs → k < length xs → n < get_or xs k 0
above_at n [] k a lt = absurd (omega arith)
above_at n (x ∷ xs) zero a lt = a.0
above_at n (x ∷ xs) (suc k) a lt = above_at n xs k a.1 (omega arith)

-- ---- a search by halves

found : (xs : List ℕ) (i : ℕ) (r : Result ℕ ℕ) → IsStrictlyIncreasing xs → IsBinarySearchResult (λ (y : ℕ). nat_cmp y i) xs r →
    MatchResult r (λ at. (at < length xs) × (get_or xs at 0 ≡ i)) (λ at. (at ≤ length xs) × ((k : ℕ) → k < at → get_or xs k 0 < i)
    × ((k : ℕ) → at ≤ k → k < length xs → i < get_or xs k 0))
found xs i r up h = searched xs i r h (λ k l le lt. elim (cases_lt k l) [
  | inl before ↦ (let less = AllPairs-from_increasing xs up k l 0 before lt in omega (arith, less))
  | inr same ↦ (let e : k ≡ l = omega arith in omega (arith, ap (λ (n : ℕ). get_or xs n 0) e))
])

pub searched_for : (xs : List ℕ) (i : ℕ) (r : Result ℕ ℕ) → IsStrictlyIncreasing xs → IsBinarySearchResult (λ (y : ℕ). nat_cmp y i) xs r
    → MatchResult r (IdStands xs i) (IdBelongs xs i)
searched_for xs i (Ok at) up h = let there = found xs i (Ok at) up h in record { within = there.0; same = there.1 }
searched_for xs i (Err at) up h = let there = found xs i (Err at) up h in record { within = there.0; before = there.1; behind = there.2 }

-- one that is above the last belongs behind it
pub belongs_last : (xs : List ℕ) (i last : ℕ) → IsStrictlyIncreasing xs → 1 ≤ length xs → last ≡ get_or xs (length xs - 1) 0 → last < i
    → IdBelongs xs i (length xs)
belongs_last xs i last up some is less = record {
  within = omega arith;
  before = λ k lt. elim (cases_lt k (length xs - 1)) [
    | inl before ↦ (let below = AllPairs-from_increasing xs up k (length xs - 1) 0 before (omega arith) in omega (arith, below, is, less))
    | inr same ↦ (let e : k ≡ length xs - 1 = omega arith in omega (arith, ap (λ (n : ℕ). get_or xs n 0) e, is, less))
  ];
  behind = λ k le lt. absurd (omega arith);
}

-- ---- one fewer

without_above : (i : ℕ) (xs : List ℕ) → Above i xs → xs ≡ without_id i xs
without_above i [] a = refl
without_above i (x ∷ xs) a = let first : i < x = a.0 in let other : (x == i) ≡ false = ne_eqb x i (λ e. omega (arith, first)) in
    rw other (ap (λ (ys : List ℕ). x ∷ ys) (without_above i xs a.1))

pub removed_there : (xs : List ℕ) (i at : ℕ) → Rising xs → at < length xs → get_or xs at 0 ≡ i → remove xs at ≡ without_id i xs
removed_there [] i at r lt is = absurd (omega arith)
removed_there (x ∷ xs) i zero r lt is = let here : (x == i) ≡ true = eq-eqb x i is in rw here (without_above i xs (subst (λ (n : ℕ). Above n xs) is r.0))
removed_there (x ∷ xs) i (suc at) r lt is =
    let less : x < get_or xs at 0 = above_at x xs at r.0 (omega arith) in
    let other : (x == i) ≡ false = ne_eqb x i (λ e. omega (arith, less, is)) in
    rw other (ap (λ (ys : List ℕ). x ∷ ys) (removed_there xs i at r.1 (omega arith) is))

above_without : (n i : ℕ) (xs : List ℕ) → Above n xs → Above n (without_id i xs)
above_without n i [] a = tt
above_without n i (x ∷ xs) a = by (not (x == i)) (above_without n i xs a.1)
  where
    by : (b : Bool) → Above n (without_id i xs) → Above n (cond b (x ∷ without_id i xs) (without_id i xs))
    by true rest = (a.0, rest)
    by false rest = rest

pub rising_without : (i : ℕ) (xs : List ℕ) → Rising xs → Rising (without_id i xs)
rising_without i [] r = tt
rising_without i (x ∷ xs) r = by (not (x == i)) (rising_without i xs r.1)
  where
    by : (b : Bool) → Rising (without_id i xs) → Rising (cond b (x ∷ without_id i xs) (without_id i xs))
    by true rest = (above_without x i xs r.0, rest)
    by false rest = rest

-- an id that does not stand there stands nowhere
pub absent_there : (xs : List ℕ) (i at : ℕ) → ((k : ℕ) → k < at → get_or xs k 0 < i) → ((k : ℕ) → at ≤ k → k < length xs → i < get_or xs k 0)
    → xs ≡ without_id i xs
absent_there [] i at before behind = refl
absent_there (x ∷ xs) i zero before behind = without_above i (x ∷ xs) (above_by i (x ∷ xs) (λ k lt. behind k (omega arith) lt))
absent_there (x ∷ xs) i (suc at) before behind =
    let first : x < i = before zero (omega arith) in
    let other : (x == i) ≡ false = ne_eqb x i (λ e. omega (arith, first)) in
    rw other (ap (λ (ys : List ℕ). x ∷ ys)
    (absent_there xs i at (λ k lt. before (suc k) (omega arith)) (λ k le lt. behind (suc k) (omega arith) (omega arith))))

-- ---- one more

pub with_first : (i : ℕ) (xs : List ℕ) → Above i xs → with_id i xs ≡ i ∷ xs
with_first i [] a = refl
with_first i (x ∷ xs) a = let less : nat_lt i x ≡ true = lt-ltb i x a.0 in rw less refl

pub with_behind : (i x : ℕ) (xs : List ℕ) → x < i → with_id i (x ∷ xs) ≡ x ∷ with_id i xs
with_behind i x xs lt = let more : nat_lt i x ≡ false = le-ltb i x (omega arith) in let less : nat_lt x i ≡ true = lt-ltb x i lt in rw more (rw less refl)

with_itself : (i : ℕ) (xs : List ℕ) → with_id i (i ∷ xs) ≡ i ∷ xs
with_itself i xs = let same : nat_lt i i ≡ false = le-ltb i i (omega arith) in rw same refl

pub there_again : (xs : List ℕ) (i at : ℕ) → Rising xs → at < length xs → get_or xs at 0 ≡ i → xs ≡ with_id i xs
there_again [] i at r lt is = absurd (omega arith)
there_again (x ∷ xs) i zero r lt is = subst (λ (n : ℕ). x ∷ xs ≡ with_id n (x ∷ xs)) is (sym (with_itself x xs))
there_again (x ∷ xs) i (suc at) r lt is =
    let less : x < get_or xs at 0 = above_at x xs at r.0 (omega arith) in
    ap (λ (ys : List ℕ). x ∷ ys) (there_again xs i at r.1 (omega arith) is) ∙ sym (with_behind i x xs (omega (arith, less, is)))

pub inserted_there : (xs : List ℕ) (i at : ℕ) → at ≤ length xs → ((k : ℕ) → k < at → get_or xs k 0 < i) → ((k : ℕ) → at ≤ k → k < length xs → i < get_or xs k 0)
    → insert xs at i ≡ with_id i xs
inserted_there [] i zero le before behind = refl
inserted_there [] i (suc at) le before behind = absurd (omega arith)
inserted_there (x ∷ xs) i zero le before behind = sym (with_first i (x ∷ xs) (above_by i (x ∷ xs) (λ k lt. behind k (omega arith) lt)))
inserted_there (x ∷ xs) i (suc at) le before behind =
    ap (λ (ys : List ℕ). x ∷ ys) (inserted_there xs i at (omega arith) (λ k lt. before (suc k) (omega arith))
    (λ k le lt. behind (suc k) (omega arith) (omega arith)))
    ∙ sym (with_behind i x xs (before zero (omega arith)))

above_with : (n i : ℕ) (xs : List ℕ) → n < i → Above n xs → Above n (with_id i xs)
above_with n i [] lt a = (lt, tt)
above_with n i (x ∷ xs) lt a = by (nat_lt i x) (nat_lt x i) (above_with n i xs lt a.1)
  where
    by : (b c : Bool) → Above n (with_id i xs) → Above n (cond b (i ∷ x ∷ xs) (cond c (x ∷ with_id i xs) (x ∷ xs)))
    by true c rest = (lt, a)
    by false true rest = (a.0, rest)
    by false false rest = a

above_less : (m n : ℕ) (xs : List ℕ) → m < n → Above n xs → Above m xs
above_less m n [] lt a = tt
above_less m n (x ∷ xs) lt a = (omega (arith, a.0), above_less m n xs lt a.1)

pub rising_with : (i : ℕ) (xs : List ℕ) → Rising xs → Rising (with_id i xs)
rising_with i [] r = (tt, tt)
rising_with i (x ∷ xs) r = by (nat_lt i x) (nat_lt x i) refl refl (rising_with i xs r.1)
  where
    by : (b c : Bool) → nat_lt i x ≡ b → nat_lt x i ≡ c → Rising (with_id i xs) → Rising (cond b (i ∷ x ∷ xs) (cond c (x ∷ with_id i xs) (x ∷ xs)))
    by true c e f rest = let lt : i < x = grind arith in ((lt, above_less i x xs lt r.0), r)
    by false true e f rest = let lt : x < i = grind arith in (above_with x i xs lt r.0, rest)
    by false false e f rest = r

-- ---- the ids still ascend

pub still_ascend : (xs new : List ℕ) (i : ℕ) → IsStrictlyIncreasing xs → new ≡ with_id i xs → IsStrictlyIncreasing new
still_ascend xs new i up is = subst IsStrictlyIncreasing (sym is) (ascends (with_id i xs) (rising_with i xs (rising xs up)))

pub fewer_ascend : (xs new : List ℕ) (i : ℕ) → IsStrictlyIncreasing xs → new ≡ without_id i xs → IsStrictlyIncreasing new
fewer_ascend xs new i up is = subst IsStrictlyIncreasing (sym is) (ascends (without_id i xs) (rising_without i xs (rising xs up)))
