-- Tests that are joined: what each part says where the whole is true, a test beside one that is false, a bit that stands for a test, and the
-- numbers of a stretch as it grows by one.
use Rattle.std.proofs.{Common.arith, Common.sym, Common.true≢false, Common.refl, lemmas.Bool.Decides.nat_tests}
use Rattle.std.specs.Prelude.{◌≡◌, ◌==◌, ℕ, ◌+◌, ◌≤◌, Bool, true, false, cond, ◌&&◌, ◌||◌, nat_le, nat_lt}

pub left_true : (a b : Bool) → (a && b) ≡ true → a ≡ true
left_true true b e = refl
left_true false b e = e

pub right_true : (a b : Bool) → (a && b) ≡ true → b ≡ true
right_true true b e = e
right_true false b e = absurd (true≢false (sym e))

pub or_false : (a : Bool) → (a || false) ≡ a
or_false true = refl
or_false false = refl

pub bit_is : (t : Bool) (n : ℕ) → n ≡ cond t 1 0 → n ≡ 1 → t ≡ true
bit_is true n e f = refl
bit_is false n e f = absurd (omega (arith, e))

-- ---- the numbers from one on and below another

pub no_number : (west n : ℕ) → (nat_le west n && nat_lt n west) ≡ false
no_number west n = grind (arith, nat_tests)

pub one_more : (west x n : ℕ) → west ≤ x → (nat_le west n && nat_lt n (x + 1)) ≡ ((nat_le west n && nat_lt n x) || (n == x))
one_more west x n le = grind (arith, nat_tests)

pub past : (west x n : ℕ) → (nat_le west n && nat_lt n x) ≡ true → (n == x) ≡ false
past west x n e = grind (arith, nat_tests)
