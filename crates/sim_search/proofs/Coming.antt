-- Whether a search has come to one of its ends, one more end at a time.
use Rattle.sim_search.proofs.Common.{◌≡◌, ℕ, ◌≤◌, List, [], ◌∷◌, ◌++◌, Some, Contains, Option, ap, arith, Cell, Contains-push_cases, IsComeTo, ⊎_elim, ◌∙◌}

-- an end that has no cost below this is past
pub come-past : (cost : Cell → Option ℕ) (xs : List Cell) (x : Cell) (now : ℕ) → ((v : ℕ) → cost x ≡ Some v → now ≤ v) → (IsComeTo cost xs now → ⊥)
    → IsComeTo cost (xs ++ x ∷ []) now → ⊥
come-past cost xs x now late none come =
    ⊎_elim
    (λ (m : Contains xs come.end). none (record { end = come.end; value = come.value; among = m; reached = come.reached; below = come.below }))
    (λ (e : x ≡ come.end). omega (arith, late come.value (ap cost e ∙ come.reached), come.below))
    (Contains-push_cases xs x come.end come.among)
