-- Deeds that ascend by their turns.
use Rattle.sim_stock.proofs.Common.{IsNonDecreasingBy, IsNonDecreasingBy-push, sym}
use Rattle.sim_stock.proofs.Common.{◌≡◌, ℕ, ◌-◌, ◌≤◌, List, [], ◌∷◌, ◌++◌, length, All, refl, All-push, arith, DatedDeed, earliest, fold_push}

abbrev turn_of : DatedDeed → ℕ
turn_of dated = dated.turn

-- the deeds ascend up to a turn, which is that of the last
pub record IsRun (turn : ℕ) (deeds : List DatedDeed) : Type 0 where
  pub rising : IsNonDecreasingBy (λ (dated : DatedDeed). dated.turn) deeds
  pub before : All (λ (dated : DatedDeed). dated.turn ≤ turn) deeds
  pub last : turn ≡ earliest deeds

-- none ascend
pub no_run : IsRun 1 []
no_run = record { rising = λ i j d le lt. absurd (omega (arith, lt)); before = λ k d lt. absurd (omega (arith, lt)); last = refl }

-- a deed that is no earlier goes on
pub run_on : (turn : ℕ) (deeds : List DatedDeed) (dated : DatedDeed) → IsRun turn deeds → turn ≤ dated.turn → IsRun dated.turn (deeds ++ dated ∷ [])
run_on turn deeds dated run le = record {
  rising = IsNonDecreasingBy-push turn_of deeds dated run.rising (λ d some. let last = run.before (length deeds - 1) d (omega (arith, some)) in
      omega (arith, last, le));
  before = All-push (λ (it : DatedDeed). it.turn ≤ dated.turn) deeds dated (λ k d lt. let least = run.before k d lt in omega (arith, least, le)) (omega arith);
  last = sym (fold_push (λ (turn : ℕ) (it : DatedDeed). it.turn) 1 deeds dated);
}
