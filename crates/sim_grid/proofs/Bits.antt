-- A number whose bits are set one after another.
use Rattle.std.{proofs.Math.Nat.eq-or-lt_of_le, proofs.lemmas.Nat.Bits.bit_at_set_other, proofs.lemmas.Nat.Bits.bit_at_set_same, specs.Int.bit_at}
use Rattle.std.proofs.Common.{◌≡◌, ℕ, suc, ◌+◌, ◌*◌, ◌%◌, ◌^◌, ◌<◌, ◌≤◌, Bool, true, false, cond, ◌⊎◌, bit_or, ap, arith, inl, inr, subst, sym, w8, ◌∙◌}

-- the bits below n are those of the test, and the others are 0
pub record AreBits (test : ℕ → Bool) (n steps : ℕ) : Type 0 where
  pub seen : (j : ℕ) → j < n → bit_at steps j ≡ cond (test j) 1 0
  pub blank : (j : ℕ) → n ≤ j → bit_at steps j ≡ 0

pub bits_more : (test : ℕ → Bool) (n steps : ℕ) → n < 8 → test n ≡ true → AreBits test n steps → AreBits test (n + 1) (bit_or steps (1 * 2 ^ n % 2 ^ 8))
bits_more test n steps lt is b =
    record { seen = λ j le. by j (eq-or-lt_of_le le); blank = λ j le. bit_at_set_other w8 steps n lt j (λ e. omega arith) ∙ b.blank j (omega arith) }
  where
    by : (j : ℕ) → (suc j ≡ n + 1) ⊎ (suc j < n + 1) → bit_at (bit_or steps (1 * 2 ^ n % 2 ^ 8)) j ≡ cond (test j) 1 0
    by j (inl e) =
        let same : n ≡ j = omega arith in
        subst (λ (i : ℕ). bit_at (bit_or steps (1 * 2 ^ n % 2 ^ 8)) i ≡ cond (test i) 1 0) same (bit_at_set_same w8 steps n lt ∙
        sym (ap (λ (t : Bool). cond t 1 0) is))
    by j (inr below) = bit_at_set_other w8 steps n lt j (λ e. omega arith) ∙ b.seen j (omega arith)

pub bits_past : (test : ℕ → Bool) (n steps : ℕ) → test n ≡ false → AreBits test n steps → AreBits test (n + 1) steps
bits_past test n steps is b = record { seen = λ j le. by j (eq-or-lt_of_le le); blank = λ j le. b.blank j (omega arith) }
  where
    by : (j : ℕ) → (suc j ≡ n + 1) ⊎ (suc j < n + 1) → bit_at steps j ≡ cond (test j) 1 0
    by j (inl e) =
        let same : n ≡ j = omega arith in
        subst (λ (i : ℕ). bit_at steps i ≡ cond (test i) 1 0) same (b.blank n (omega arith) ∙ sym (ap (λ (t : Bool). cond t 1 0) is))
    by j (inr below) = b.seen j (omega arith)
