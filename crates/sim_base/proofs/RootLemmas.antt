-- The root of a number is determined by its square and the next one.
use Rattle.{sim_base.specs.Places.{greatest, IsRoot, root}, std.proofs.Common.{ap, arith, Bool, cond, false, leb, refl, suc, sym, true, zero, ℕ, ⊎_elim, ◌*◌}}
use Rattle.std.proofs.{Common.{◌+◌, ◌<◌, ◌∙◌, ◌≡◌, ◌≤◌}, lemmas.{Bool.{le-leb, lt-leb, true≢false}, Nat.mul-le}, Math.Nat.eq-or-lt_of_le}

-- a number that passes, where none above it does, is the greatest
greatest_is : (test : ℕ → Bool) (bound r : ℕ) → r ≤ bound → test r ≡ true → ((k : ℕ) → r < k → k ≤ bound → test k ≡ false) → greatest test bound ≡ r
greatest_is test zero r within passes above_fail = omega arith
greatest_is test (suc bound) r within passes above_fail =
    by (test (suc bound)) refl (λ h. greatest_is test bound r (omega arith) passes (λ k l m. above_fail k l (omega arith)))
  where
    by : (b : Bool) → test (suc bound) ≡ b → (r < suc bound → greatest test bound ≡ r) → cond b (suc bound) (greatest test bound) ≡ r
    by true e ih = ⊎_elim (λ (h : r ≡ suc bound). sym h) (λ (h : r < suc bound). absurd (true≢false (sym e ∙ above_fail (suc bound) h (omega arith))))
        (eq-or-lt_of_le within)
    by false e ih = ⊎_elim (λ (h : r ≡ suc bound). absurd (true≢false (sym passes ∙ ap test h ∙ e))) ih (eq-or-lt_of_le within)

pub self_le_square : (r : ℕ) → r ≤ r * r
self_le_square zero = omega arith
self_le_square (suc r) = omega (arith, mul-le (suc r) 1 (suc r) (suc r) (omega arith) (omega arith))

-- the root is the one number with these bounds
pub root_is : (n r : ℕ) → IsRoot n r → root n ≡ r
unfolding root
root_is n r h = greatest_is (λ k. leb (k * k) n) n r (omega (arith, self_le_square r, h.within)) (le-leb _ _ h.within)
    (λ k l m. lt-leb (k * k) n (omega (arith, h.above, mul-le (r + 1) (r + 1) k k (omega arith) (omega arith))))
