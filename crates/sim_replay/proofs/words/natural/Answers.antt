-- Digits alone are read as the number that they spell, where that fits.
use Rattle.std.{proofs.lemmas.Str.Parse.parse_digits, specs.Result.OkIff, specs.Str.Parse.ParsesUnsigned}
use Rattle.sim_replay.proofs.Common.{natural_of, refl, result_ok, sym, ◌∙◌, ◌≡◌, ℕ, ◌^◌, ◌<◌, Bool, true, false, cond, ◌&&◌, ltb, List, length, Ok, Err, Some}
use Rattle.sim_replay.proofs.Common.{None, Result, and_from, ap, are_numerals, below, cond-true, digits_value, is_digit, list_all, lt-ltb, ltb-true}

parsed : {E : Type 0} (text : List ℕ) (r : Result ℕ E) → list_all is_digit text ≡ true → ParsesUnsigned 32 10 text r → result_ok r ≡ natural_of text
unfolding natural_of
parsed {E} text r digits h = by r (parse_digits are_numerals 32 text r h digits)
  where
    value : ℕ
    value = digits_value 10 text

    none : (all some small : Bool) → ltb 0 (length text) ≡ some → ltb value (2 ^ 32) ≡ small → ((0 < length text) × (value < 2 ^ 32) → ⊥)
        → cond (all && some) (cond small (Some value) None) None ≡ None
    none false some small e f fails = refl
    none true false small e f fails = refl
    none true true false e f fails = refl
    none true true true e f fails = absurd (fails (ltb-true 0 (length text) e, ltb-true value (2 ^ 32) f))

    by : (r : Result ℕ E) → OkIff r ((0 < length text) × (value < 2 ^ 32)) value
        → result_ok r ≡ cond (list_all is_digit text && ltb 0 (length text)) (below (2 ^ 32) value) None
    by (Ok n) is = ap Some is.1 ∙ sym (cond-true _ _ _ (lt-ltb value (2 ^ 32) is.0.1))
        ∙ sym (cond-true _ _ _ (and_from (list_all is_digit text) _ digits (lt-ltb 0 (length text) is.0.0)))
    by (Err fault) fails = sym (none (list_all is_digit text) (ltb 0 (length text)) (ltb value (2 ^ 32)) refl refl fails)

pub returns-then-all_digits : Rattle.sim_replay.proofs.words.natural.Goals.returns-then-all_digits
returns-then-all_digits c = c.ok.ensures.value ∙ parsed c.args.text.now c.parse.result (sym c.all_digits.ensures ∙ c.if-all_digits.true) c.parse.ensures.value.0
