-- No walk costs less than the octile distance, since along a step it rises by at most what the step costs.
use Rattle.{sim_base.specs.{declared.place.Cell.Cell, Places.{Field, IsStep, octile}}, sim_path.specs.declared.straight.Straight.Straight}
use Rattle.{sim_path.specs.Questions.{IsFloor, octile_from}, sim_search.proofs.Moves.{beside_of, octile-near, octile-self, turned}}
use Rattle.std.{proofs.Common.{arith, ℕ, ◌+◌, ◌≤◌}, specs.Prelude.⊤}

pub octile-rises : (field : Field) (start a b : Cell) (k : ℕ) → IsStep field start a b k → octile b start ≤ octile a start + k
octile-rises field start a b k s = omega (arith, octile-near start (turned (beside_of field start a b k s)))

pub octile-floor : (field : Field) (start : Cell) → IsFloor field start (octile_from start)
octile-floor field start = record { begins = octile-self start; rises = octile-rises field start }

-- what a walk costs at least, by the octile distance alone
abbrev pub straight_from : Straight → Cell → Cell → ℕ
straight_from straight start = octile_from start

-- nothing need be known of it
abbrev pub IsStraight : Field → Cell → Straight → Type 0
IsStraight field start straight = ⊤

pub straight-floor : (field : Field) (start : Cell) (straight : Straight) → IsStraight field start straight → IsFloor field start (straight_from straight start)
straight-floor field start straight is = octile-floor field start
