-- The first command whose turn falls, by its place.
use Rattle.sim_setup.proofs.Common.{[], arith, Bool, falls_at, false, if◌then◌else◌, length, List, nat_lt, refl, Some, subst, suc, Timed, true, zero, ℕ, ◌+◌}
use Rattle.sim_setup.{proofs.Common.◌<◌, proofs.Common.◌∷◌, proofs.Common.◌≡◌, specs.Setups.IsLeastFall, specs.Setups.falls, specs.Setups.turns_of}

-- the place counted from the command that is held against `before`
record Place (before n : ℕ) (turns : List ℕ) (i : ℕ) : Type 0 where
  far : ℕ
  is : i ≡ n + far
  here : falls before turns far ≡ true
  none_before : (j : ℕ) → j < far → falls before turns j ≡ false

place_behind : (before n : ℕ) (timed : Timed) (rest : List Timed) (i : ℕ) → nat_lt timed.turn before ≡ false → Place timed.turn (n + 1) (turns_of rest) i →
    Place before n (turns_of (timed ∷ rest)) i
place_behind before n timed rest i is later = record { far = suc later.far; is = omega (arith, later.is); here = later.here; none_before = none }
  where
    none : (j : ℕ) → j < suc later.far → falls before (turns_of (timed ∷ rest)) j ≡ false
    none zero less = is
    none (suc j) less = later.none_before j (omega (arith, less))

place_of : (before n : ℕ) (commands : List Timed) (i : ℕ) → falls_at before n commands ≡ Some i → Place before n (turns_of commands) i
place_of before n [] i e = absurd cc
place_of before n (timed ∷ rest) i e = by (nat_lt timed.turn before) refl (place_of timed.turn (n + 1) rest i) e
  where
    by : (b : Bool) → nat_lt timed.turn before ≡ b → (falls_at timed.turn (n + 1) rest ≡ Some i → Place timed.turn (n + 1) (turns_of rest) i) →
        (if b then Some n else falls_at timed.turn (n + 1) rest) ≡ Some i → Place before n (turns_of (timed ∷ rest)) i
    by true is behind e =
        let same : n ≡ i = cc in
        record { far = 0; is = omega (arith, same); here = is; none_before = λ j less. absurd (omega (arith, less)) }
    by false is behind e = place_behind before n timed rest i is (behind e)

pub falls_least : (commands : List Timed) (i : ℕ) → falls_at 0 0 commands ≡ Some i → IsLeastFall (turns_of commands) i
falls_least commands i e =
    let place = place_of 0 0 commands i e in
    let at : place.far ≡ i = omega (arith, place.is) in
    subst (IsLeastFall (turns_of commands)) at (record { here = place.here; none_before = place.none_before })

pub falls_within : (before n : ℕ) (commands : List Timed) (i : ℕ) → falls_at before n commands ≡ Some i → i < n + length commands
falls_within before n [] i e = absurd cc
falls_within before n (timed ∷ rest) i e = by (nat_lt timed.turn before) (falls_within timed.turn (n + 1) rest i) e
  where
    by : (b : Bool) → (falls_at timed.turn (n + 1) rest ≡ Some i → i < n + 1 + length rest) →
        (if b then Some n else falls_at timed.turn (n + 1) rest) ≡ Some i → i < n + length (timed ∷ rest)
    by true behind e = let same : n ≡ i = cc in omega (arith, same)
    by false behind e = omega (arith, behind e)
