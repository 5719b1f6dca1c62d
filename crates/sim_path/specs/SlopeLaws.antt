-- No walk costs less than what distances to a goal leave for it, since they fall along a step by at most what it costs.
use Rattle.std.proofs.Common.{ℕ, ◌*◌, ◌+◌, ◌-◌, ◌≡◌, ◌≤◌}
use Rattle.{sim_base.specs.Places.Field, sim_base.specs.declared.place.Cell.Cell, sim_path.specs.Questions.IsFloor, sim_path.specs.Questions.IsSlope}
use Rattle.{sim_path.specs.Questions.slope_of, sim_path.specs.declared.slope.Slope.Slope, sim_search.specs.Rows.number_in, std.proofs.Common.arith}

left-rises : (whole a b k : ℕ) → 2 * a ≤ k + 2 * b → whole - 2 * b ≤ whole - 2 * a + k
left-rises whole a b k h = omega arith

none-left : (whole number : ℕ) → whole ≡ 2 * number → whole - 2 * number ≡ 0
none-left whole number e = omega (arith, e)

pub slope-floor : (field : Field) (start : Cell) (s : Slope) → IsSlope field start s → IsFloor field start (slope_of s)
slope-floor field start s is =
    let number = number_in s.distances.now in
    record {
      begins = none-left s.whole (number start) is.whole;
      rises = λ a b k step. left-rises s.whole (number a) (number b) k (is.distances.onwards start a b k is.is_open step);
    }
