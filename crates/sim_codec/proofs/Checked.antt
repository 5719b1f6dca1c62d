-- Rows that were looked at one by one.
use Rattle.sim_codec.proofs.Common.{arith, cases_lt, false≢true, get_or-map, id_of, inl, inr, IsAllAdjacentAnswer, IsStrictlyIncreasing, length-map, ltb-false}
use Rattle.sim_codec.proofs.Common.{ltb-true, Row, subst, sym, take_all, ◌∙◌}
use Rattle.sim_codec.proofs.Common.{◌≡◌, ℕ, ◌+◌, ◌-◌, ◌<◌, ◌≤◌, Bool, true, false, ◌↔◌, List, map, length, get_or, take, IsTrue, nat_lt, All, refl, All-more}

pub one_more : {X : Type 0} (P : X → Type 0) (xs : List X) (i : ℕ) (x : X) (good : Bool) → i < length xs → x ≡ get_or xs i x → (IsTrue good ↔ P x) → good ≡ true
    → All P (take i xs) → All P (take (i + 1) xs)
one_more P xs i x good lt is says yes' so_far = All-more P xs i x lt so_far (subst P is (says.0 yes'))

pub not_all : {X : Type 0} (P : X → Type 0) (xs : List X) (i : ℕ) (x : X) (good : Bool) → i < length xs → x ≡ get_or xs i x → (IsTrue good ↔ P x) → good ≡ false
    → All P xs → ⊥
not_all P xs i x good lt is says no' all = false≢true (sym no' ∙ says.1 (subst P (sym is) (all i x lt)))

pub all_seen : {X : Type 0} (P : X → Type 0) (xs : List X) (i : ℕ) → length xs ≤ i → All P (take i xs) → All P xs
all_seen P xs i le so_far = subst (All P) (take_all i xs le) so_far

abbrev id_at : List Row → ℕ → ℕ
id_at rows k = get_or (map id_of rows) k 0

id_at_is : (rows : List Row) (k : ℕ) (x : Row) → k < length rows → id_at rows k ≡ (get_or rows k x).id
id_at_is rows k x lt = get_or-map id_of rows k x 0 lt

pub above_more : (rows : List Row) (i : ℕ) (x y : Row) → 1 ≤ i → i < length rows → (get_or rows (i - 1) x).id < (get_or rows i y).id
    → ((k : ℕ) → k + 1 < i → id_at rows k < id_at rows (k + 1)) → (k : ℕ) → k + 1 < i + 1 → id_at rows k < id_at rows (k + 1)
above_more rows i x y from lt above so_far k h =
    elim (cases_lt (k + 1) i) [
      | inl before ↦ so_far k before
      | inr past ↦
          let k-is : k ≡ i - 1 = omega arith in
          let e : i - 1 + 1 ≡ i = omega arith in
          rw k-is (rw e (rw (id_at_is rows (i - 1) x (omega arith), id_at_is rows i y lt) above))
    ]

pub not_above : (rows : List Row) (i : ℕ) (x y : Row) → 1 ≤ i → i < length rows → (get_or rows i y).id ≤ (get_or rows (i - 1) x).id
    → IsStrictlyIncreasing (map id_of rows) → ⊥
not_above rows i x y from lt le increasing =
    let e : i - 1 + 1 ≡ i = omega arith in
    let h = increasing (i - 1) (rw (length-map rows id_of) (omega arith)) in
    omega (arith, rw e at h, id_at_is rows (i - 1) x (omega arith), id_at_is rows i y lt)

-- where each was asked whether its key is below that of the next
pub ascending_answer : {A : Type 0} (key : A → ℕ) (d : A) (xs : List A) (answer : Bool) → IsAllAdjacentAnswer (λ x y b. b ≡ nat_lt (key x) (key y)) xs answer
    → IsTrue answer ↔ IsStrictlyIncreasing (map key xs)
ascending_answer key d xs true all = (λ _ k lt. rises k (omega (arith, lt, length-map xs key)), λ _. refl)
  where
    rises : (k : ℕ) → k + 1 < length xs → get_or (map key xs) k 0 < get_or (map key xs) (k + 1) 0
    rises k lt = omega (arith, ltb-true _ _ (sym (all k d lt)), get_or-map key xs k d 0 (omega arith), get_or-map key xs (k + 1) d 0 lt)
ascending_answer key d xs false some = (λ no'. absurd (false≢true no'), λ up. absurd (falls (up some.0 (omega (arith, some.1, length-map xs key)))))
  where
    falls : get_or (map key xs) some.0 0 < get_or (map key xs) (some.0 + 1) 0 → ⊥
    falls lt = omega (arith, ltb-false _ _ (sym (some.2 d)), get_or-map key xs some.0 d 0 (omega (arith, some.1)), get_or-map key xs (some.0 + 1) d 0 some.1)
