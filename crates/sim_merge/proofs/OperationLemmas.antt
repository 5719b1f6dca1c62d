-- Operations on texts, by their results as numbers.
use Rattle.sim_merge.proofs.Common.{ap, arith, cond-false, cond-true, in_range, ints, is_raw, nat_tests, number_by, number_of, sym, text_by, text_of, w32, ◌∙◌}
use Rattle.sim_merge.proofs.Common.{◌≡◌, ℕ, Bool, true, false, List, ℤ, pos, negsuc, SomeIff, FitsSigned, Some, None, Option, option_map, option_and_then, refl}

is_raw-FitsSigned : (z : ℤ) → FitsSigned w32 z → is_raw z ≡ true
is_raw-FitsSigned (pos n) fits = grind (arith, ints, nat_tests)
is_raw-FitsSigned (negsuc n) fits = grind (arith, ints, nat_tests)

FitsSigned-is_raw : (z : ℤ) → is_raw z ≡ true → FitsSigned w32 z
FitsSigned-is_raw (pos n) raw = grind (arith, ints, nat_tests)
FitsSigned-is_raw (negsuc n) raw = grind (arith, ints, nat_tests)

-- a number exactly where it fits
pub in_range-SomeIff : (found : Option ℤ) (z : ℤ) → SomeIff found (FitsSigned w32 z) z → found ≡ in_range z
in_range-SomeIff None z out = by (is_raw z) refl
  where
    by : (b : Bool) → is_raw z ≡ b → None ≡ in_range z
    by true is = absurd (out (FitsSigned-is_raw z is))
    by false is = sym (cond-false (is_raw z) _ _ is)
in_range-SomeIff (Some x) z fits = ap Some fits.1 ∙ sym (cond-true (is_raw z) _ _ (is_raw-FitsSigned z fits.0))

-- the result for two texts that are numbers
abbrev combined : (ℤ → ℤ → ℤ) → Option ℤ → Option ℤ → Option ℤ
combined operation lower upper = option_and_then (λ x. option_and_then (λ y. in_range (operation x y)) upper) lower

pub number_by-some : (operation : ℤ → ℤ → ℤ) (lower upper : List ℕ) (x y : ℤ) → Some x ≡ number_of lower → Some y ≡ number_of upper →
    in_range (operation x y) ≡ number_by operation lower upper
number_by-some operation lower upper x y e f =
    ap (λ l. combined operation l (Some y)) e ∙ ap (λ u. combined operation (number_of lower) u) f

-- the printed result is the result, printed
pub text_by-number_by : (operation : ℤ → ℤ → ℤ) (lower upper : List ℕ) → text_by operation lower upper ≡ option_map text_of (number_by operation lower upper)
unfolding text_by
text_by-number_by operation lower upper = by (number_of lower) (number_of upper)
  where
    by : (l u : Option ℤ) → option_and_then (λ x. option_and_then (λ y. option_map text_of (in_range (operation x y))) u) l ≡ option_map text_of
        (combined operation l u)
    by None u = refl
    by (Some x) None = refl
    by (Some x) (Some y) = refl
