-- Which words ask to write a file, by how many they are.
use Rattle.{sim_top.specs.Words.{asked_by, asked_of_one, asked_of_three, out_of, words_of}, std.proofs.Common.{arith, get_or, length, List, None, Option, refl}}
use Rattle.std.{proofs.{Common.{String, string_bytes, ℕ, [], ◌<◌, ◌∷◌, ◌≡◌, ◌≤◌, ◌⊎◌}, lemmas.Grind.common_steps}, specs.declared.alloc.Global.Global}

-- a command of one file writes none
of_one : (command file : List ℕ) → None ≡ out_of (asked_of_one command file)
of_one command file = grind (arith, common_steps)

-- neither do fewer than three words, or more than four
pub of_others : (words : List (String Global)) → (length words < 3) ⊎ (5 ≤ length words) → None ≡ out_of (asked_by (words_of words))
of_others [] count = refl
of_others (a ∷ []) count = refl
of_others (a ∷ b ∷ []) count = of_one (string_bytes a) (string_bytes b)
of_others (a ∷ b ∷ c ∷ []) count = absurd (omega (arith, count))
of_others (a ∷ b ∷ c ∷ d ∷ []) count = absurd (omega (arith, count))
of_others (a ∷ b ∷ c ∷ d ∷ e ∷ more) count = refl

-- of four words the second does not matter
pub of_four : (words : List (String Global)) (command turn out : String Global) (found : Option (List ℕ)) → 4 ≤ length words → length words < 5
    → command ≡ get_or words 0 command → turn ≡ get_or words 2 turn → out ≡ get_or words 3 out
    → ((a : List ℕ) → found ≡ out_of (asked_of_three (string_bytes command) a (string_bytes turn) (string_bytes out)))
    → found ≡ out_of (asked_by (words_of words))
of_four [] command turn out found long short first third fourth is = absurd (omega (arith, long))
of_four (a ∷ []) command turn out found long short first third fourth is = absurd (omega (arith, long))
of_four (a ∷ b ∷ []) command turn out found long short first third fourth is = absurd (omega (arith, long))
of_four (a ∷ b ∷ c ∷ []) command turn out found long short first third fourth is = absurd (omega (arith, long))
of_four (a ∷ b ∷ c ∷ d ∷ []) command turn out found long short first third fourth is = rw (first, third, fourth) at (is (string_bytes b))
of_four (a ∷ b ∷ c ∷ d ∷ e ∷ more) command turn out found long short first third fourth is = absurd (omega (arith, short))
