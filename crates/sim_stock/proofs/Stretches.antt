-- What has a key stands together in a list that ascends by its keys.
use Rattle.sim_stock.proofs.Common.{ap, arith, cases_lt, eq-eqb, inl, inr, IsPartitionPoint, ltb-false, ltb-true, ne_eqb}
use Rattle.sim_stock.proofs.Common.{◌≡◌, ℕ, zero, suc, ◌+◌, ◌-◌, ◌<◌, ◌≤◌, true, false, List, [], ◌∷◌, length, get_or, take, drop, nat_lt, ◌==◌, filter, refl}

module _ {X : Type 0} (key : X → ℕ) where
  -- those with a key are a run behind those before it
  stretch : (t : ℕ) (xs : List X) (first count : ℕ) → first + count ≤ length xs → ((k : ℕ) (d : X) → k < first → key (get_or xs k d) < t) →
      ((k : ℕ) (d : X) → first ≤ k → k < first + count → key (get_or xs k d) ≡ t)
      → ((k : ℕ) (d : X) → first + count ≤ k → k < length xs → t < key (get_or xs k d)) →
      filter (λ x. key x == t) xs ≡ take count (drop first xs)
  stretch t [] zero zero within before here behind = refl
  stretch t [] zero (suc n) within before here behind = absurd (omega (arith, within))
  stretch t [] (suc f) n within before here behind = absurd (omega (arith, within))
  stretch t (x ∷ xs) zero zero within before here behind =
      let later : t < key x = behind 0 x (omega arith) (omega arith) in
      let away : (key x == t) ≡ false = ne_eqb (key x) t (λ e. omega (arith, later, e)) in
      rw away (stretch t xs zero zero (omega arith) (λ k d lt. absurd (omega (arith, lt))) (λ k d le lt. absurd (omega (arith, lt)))
      (λ k d le lt. behind (suc k) d (omega arith) (omega (arith, lt))))
  stretch t (x ∷ xs) zero (suc n) within before here behind =
      let now : (key x == t) ≡ true = eq-eqb (key x) t (here 0 x (omega arith) (omega arith)) in
      rw now (ap (λ (ys : List X). x ∷ ys)
      (stretch t xs zero n (omega (arith, within)) (λ k d lt. absurd (omega (arith, lt))) (λ k d le lt. here (suc k) d (omega arith) (omega (arith, lt)))
      (λ k d le lt. behind (suc k) d (omega (arith, le)) (omega (arith, lt)))))
  stretch t (x ∷ xs) (suc f) n within before here behind =
      let sooner : key x < t = before 0 x (omega arith) in
      let away : (key x == t) ≡ false = ne_eqb (key x) t (λ e. omega (arith, sooner, e)) in
      rw away (stretch t xs f n (omega (arith, within)) (λ k d lt. before (suc k) d (omega (arith, lt)))
      (λ k d le lt. here (suc k) d (omega (arith, le)) (omega (arith, lt)))
      (λ k d le lt. behind (suc k) d (omega (arith, le)) (omega (arith, lt))))

  module _ (xs : List X) (t first end : ℕ) (none : X) (within : end ≤ length xs)
      (before : IsPartitionPoint (λ x. nat_lt (key x) t ≡ true) (λ x. nat_lt (key x) t ≡ false) xs first)
      (past : IsPartitionPoint (λ x. nat_lt (key x) (t + 1) ≡ true) (λ x. nat_lt (key x) (t + 1) ≡ false) xs end) where
    -- those before the key end where those with it begin
    pub in_order : first ≤ length xs → first ≤ end
    in_order inside = elim (cases_lt end first) [
      | inl lt ↦ (let less = ltb-true (key (get_or xs end none)) t (before.0 end none (omega arith) lt) in
          let more = ltb-false (key (get_or xs end none)) (t + 1) (past.1 end none (omega arith) (omega (arith, lt, inside))) in
          absurd (omega (arith, less, more)))
      | inr ge ↦ ge
    ]

    pub run_is : first ≤ end → filter (λ x. key x == t) xs ≡ take (end - first) (drop first xs)
    run_is le =
        let joined : first + (end - first) ≡ end = omega arith in
        stretch t xs first (end - first) (omega (arith, joined, within)) (λ k e lt. ltb-true (key (get_or xs k e)) t (before.0 k e (omega arith) lt))
        (λ k e ge lt.
        let upto = ltb-true (key (get_or xs k e)) (t + 1) (past.0 k e (omega arith) (omega (arith, joined, lt))) in
        let least = ltb-false (key (get_or xs k e)) t (before.1 k e ge (omega (arith, lt, joined, within))) in
        omega (arith, upto, least))
        (λ k e ge lt. let least = ltb-false (key (get_or xs k e)) (t + 1) (past.1 k e (omega (arith, joined, ge)) lt) in omega (arith, least))
