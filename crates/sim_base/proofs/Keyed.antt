-- Elements by their keys: each number from 1 up to a place is the key of one element, and no number from there on is that of any.
use Rattle.std.proofs.{Common.{ap, arith, Bool, cond, inl, inr, List, refl, sym, ℕ, [], ◌++◌, ◌+◌, ◌<◌, ◌∙◌, ◌∷◌, ◌≡◌, ◌≤◌}, lemmas.Bool.{eq-eqb, ne_eqb}}
use Rattle.std.{proofs.{lemmas.List.Sums.{sum_by-append, sum_by-cons}, Math.Nat.eq-or-lt_of_le}, specs.Prelude.{count_by, sum_by, ◌==◌}}

pub record AreKeyedBelow {H : Type 0} (key : H → ℕ) (hs : List H) (end : ℕ) : Type 0 where
  pub once : (k : ℕ) → 0 < k → k < end → count_by (λ (h : H). key h == k) hs ≡ 1
  pub none : (k : ℕ) → end ≤ k → count_by (λ (h : H). key h == k) hs ≡ 0

-- 1 where a test is true
abbrev one_if : Bool → ℕ
one_if b = cond b 1 0

-- one element more is counted where it has the key
counted_more : {H : Type 0} (key : H → ℕ) (hs : List H) (h : H) (k : ℕ)
    → count_by (λ (x : H). key x == k) (hs ++ h ∷ []) ≡ count_by (λ (x : H). key x == k) hs + one_if (key h == k)
counted_more {H} key hs h k =
    let f : H → ℕ = λ x. one_if (key x == k) in
    let none : sum_by f [] ≡ 0 = refl in
    let last : sum_by f (h ∷ []) ≡ one_if (key h == k) + sum_by f [] = sum_by-cons f h [] in
    let both : sum_by f (hs ++ h ∷ []) ≡ sum_by f hs + sum_by f (h ∷ []) = sum_by-append f hs (h ∷ []) in
    omega (arith, none, last, both)

-- an element whose key is the place moves the place up by one
pub AreKeyedBelow-append : {H : Type 0} (key : H → ℕ) (hs : List H) (h : H) (end : ℕ) → key h ≡ end → AreKeyedBelow key hs end
    → AreKeyedBelow key (hs ++ h ∷ []) (end + 1)
AreKeyedBelow-append {H} key hs h end is keyed = record {
  once = λ k low high.
      let within : k ≤ end = omega (arith, high) in
      elim (eq-or-lt_of_le within) [
        | inl same ↦
            let hit : one_if (key h == k) ≡ 1 = ap one_if (eq-eqb (key h) k (is ∙ sym same)) in
            let none : count_by (λ (x : H). key x == k) hs ≡ 0 = keyed.none k (omega (arith, same)) in
            omega (arith, hit, none, counted_more key hs h k)
        | inr less ↦
            let missed : one_if (key h == k) ≡ 0 = ap one_if (ne_eqb (key h) k (λ e. omega (arith, e, is, less))) in
            omega (arith, missed, keyed.once k low less, counted_more key hs h k)
      ];
  none = λ k from.
      let missed : one_if (key h == k) ≡ 0 = ap one_if (ne_eqb (key h) k (λ e. omega (arith, e, is, from))) in
      omega (arith, missed, keyed.none k (omega (arith, from)), counted_more key hs h k);
}
