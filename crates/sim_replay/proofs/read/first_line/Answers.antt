-- The first line ends at the first line feed.
use Rattle.sim_replay.proofs.Common.{[], ap, arith, Bool, cond, drop, false, length, List, ltb, ltb-false, ltb-true, None, not, onto_first, parts_of}
use Rattle.sim_replay.proofs.Common.{position_or_len, refl, slice_split-cons_no, Some, sym, take, take_all, true, ℕ, ◌+◌, ◌-◌, ◌<◌, ◌==◌, ◌∙◌, ◌∷◌, ◌≡◌, ◌≤◌}
use Rattle.sim_replay.{proofs.Cuts.passed, specs.Logs.IsFirstLine}
use Rattle.std.{proofs.lemmas.List.Splits.slice_split_first, proofs.lemmas.List.length-drop, proofs.lemmas.List.length-take, specs.List.position}

-- with no line feed the bytes are the one part
unended : (bytes : List ℕ) → length bytes ≤ position_or_len (λ c. c == 10) bytes → parts_of bytes ≡ bytes ∷ []
unended [] none = refl
unended (c ∷ cs) none = by (λ h. unended cs h) (c == 10) refl none
  where
    by : (length cs ≤ position_or_len (λ c. c == 10) cs → parts_of cs ≡ cs ∷ []) → (here : Bool) → (c == 10) ≡ here
        → length (c ∷ cs) ≤ cond (not here) (1 + position_or_len (λ c. c == 10) cs) 0 → parts_of (c ∷ cs) ≡ (c ∷ cs) ∷ []
    by more true is h = absurd (omega (arith, h))
    by more false is h = slice_split-cons_no (λ b. b == 10) c cs is ∙ ap (onto_first c) (more (omega (arith, h)))

none_ended : (bytes : List ℕ) → None ≡ position (λ c. c == 10) bytes → parts_of bytes ≡ bytes ∷ []
none_ended bytes e = by (ltb (position_or_len (λ c. c == 10) bytes) (length bytes)) refl e
  where
    place : ℕ
    place = position_or_len (λ c. c == 10) bytes

    by : (below : Bool) → ltb place (length bytes) ≡ below → None ≡ cond below (Some place) None → parts_of bytes ≡ bytes ∷ []
    by true is h = absurd cc
    by false is h = unended bytes (ltb-false place (length bytes) is)

-- else the first one ends there
ended_at : (bytes : List ℕ) (at : ℕ) → Some at ≡ position (λ c. c == 10) bytes
    → IsFirstLine bytes (take at bytes) (take (length bytes - (at + 1)) (drop (at + 1) bytes))
ended_at bytes at e = (first, omega (arith, length-take at bytes, length-drop (at + 1) bytes, ap length whole, within))
  where
    place : ℕ
    place = position_or_len (λ c. c == 10) bytes

    below : place < length bytes
    below = ltb-true place (length bytes) ((passed (ltb place (length bytes)) (Some place) at (sym e)).yes)

    same : place ≡ at
    same = let h = (passed (ltb place (length bytes)) (Some place) at (sym e)).gives in cc

    within : at < length bytes
    within = omega (arith, same, below)

    whole : take (length bytes - (at + 1)) (drop (at + 1) bytes) ≡ drop (at + 1) bytes
    whole = take_all (length bytes - (at + 1)) (drop (at + 1) bytes) (omega (arith, length-drop (at + 1) bytes))

    first : parts_of bytes ≡ take at bytes ∷ parts_of (take (length bytes - (at + 1)) (drop (at + 1) bytes))
    first = slice_split_first (λ b. b == 10) bytes 0 below ∙ ap (λ (n : ℕ). take n bytes ∷ parts_of (drop (n + 1) bytes)) same
        ∙ ap (λ (rest : List ℕ). take at bytes ∷ parts_of rest) (sym whole)

pub returns-in-None : Rattle.sim_replay.proofs.read.first_line.Goals.returns-in-None
returns-in-None c = none_ended c.args.bytes.now c.in-None.ensures

pub returns-in-Some : Rattle.sim_replay.proofs.read.first_line.Goals.returns-in-Some
returns-in-Some c = ended_at c.args.bytes.now c.in-Some.at c.in-Some.ensures
