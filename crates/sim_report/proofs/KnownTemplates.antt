-- A valid state has rows of known templates alone: what a caller of `push_show` owes for a state that it loaded.
use Rattle.sim_report.proofs.Common.{slice_get_within, State}
use Rattle.sim_report.proofs.Common.{◌≡◌, ℕ, ◌<◌, List, length, slice_get, MatchOption, Some, None, All, Option, refl, HasTemplate, IsState, Setup}

-- a place where something stands lies within the list
within_list : {X : Type 0} (P : X → Type 0) (xs : List X) (i : ℕ) (found : Option X) → slice_get xs i ≡ found → MatchOption found ⊥ P → i < length xs
within_list P xs i None is known = absurd known
within_list P xs i (Some x) is known = slice_get_within xs i x is

pub templates_known : (least : ℕ) (setup : Setup) (state : State) → IsState least setup state → All (HasTemplate setup) state.rows
templates_known least setup state valid = λ k d below. within_list _ setup.templates _ _ refl (valid.rows k d below)
