-- What is known of the cost from a cell on.
use Rattle.std.specs.Prelude.{◌≡◌, ℕ, ◌+◌, ◌-◌, ◌*◌, ◌/◌, ◌%◌, ◌<◌, ◌≤◌}
use Rattle.sim_search.specs.{Common.Cell, Common.Field, Common.IsStep, Common.octile, Common.Walk, declared.aim.Aim.Aim, declared.aim.Nowhere.Nowhere}

-- An estimate falls along a step by at most what the step costs. So it is never more than what a walk to a cell with estimate 0 costs.
pub record IsEstimate {X : Type 0} (Step : X → X → ℕ → Type 0) (estimate : X → ℕ) : Type 0 where
  pub falls : (a b : X) (k : ℕ) → Step a b k → estimate a ≤ k + estimate b

-- An estimate guides a search: it falls along a step by at most what the step costs; along a step from a cell to which a walk leads, cost and
-- estimate together rise so little that the keys of the cells that wait fit into the ring; and it is even, as all costs are.
pub record IsGuide (field : Field) (start : Cell) (estimate : Cell → ℕ) : Type 0 where
  pub falls : IsEstimate (IsStep field start) estimate
  pub rises : (a b : Cell) (k n : ℕ) → Walk (IsStep field start) start a n → IsStep field start a b k → k + estimate b + 1 ≤ estimate a + 32
  pub even : (c : Cell) → estimate c % 2 ≡ 0

-- how much further a cell is from the goal than the ends of the search are, as an even number, as all costs are
abbrev pub estimate_to : Aim → Cell → ℕ
estimate_to aim c = (octile c aim.goal - aim.near) / 2 * 2

-- of all cells nothing is known
abbrev pub nothing_left : Nowhere → Cell → ℕ
nothing_left it c = 0

-- a cell of the largest ground
pub record IsNarrow (c : Cell) : Type 0 where
  pub east : c.x < 256
  pub north : c.z < 256
