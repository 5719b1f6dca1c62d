-- A text has two digits for each byte.
use Rattle.{hex.{proofs.HexLemmas.decode_of-ok, specs.{declared.error.FromHexError.FromHexError, Hex.decode_of}}, sim_lists.specs.Arrivals.{hex_of, is_hex}}
use Rattle.std.{proofs.Common.{Bool, Err, false, if◌then◌else◌, length, List, None, Ok, refl, Result, Some, subst, true, ℕ, ◌*◌, ◌≡◌}, specs.Result.result_ok}

pub hex_length : (text bytes : List ℕ) → hex_of text ≡ Some bytes → length text ≡ 2 * length bytes
hex_length text bytes = by (is_hex text) (decode_of text) refl
  where
    by : (b : Bool) (r : Result (List ℕ) FromHexError) → decode_of text ≡ r → (if b then result_ok r else None) ≡ Some bytes → length text ≡ 2 * length bytes
    by true (Ok found) decoded e = let same : found ≡ bytes = cc in subst (λ (l : List ℕ). length text ≡ 2 * length l) same
        ((decode_of-ok text found decoded).2)
    by true (Err fault) decoded e = absurd cc
    by false r decoded e = absurd cc
