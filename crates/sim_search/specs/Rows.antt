-- Half the least costs from landmarks, as a row of eight numbers for each cell, and what they tell of walks.
use Rattle.sim_search.specs.declared.{ahead.Ahead.Ahead, distances.Distances.Distances, landmarks.Landmarks.Landmarks, toward.Toward.Toward}
use Rattle.sim_search.specs.{Common.Cell, Common.Field, Common.IsOnGround, Common.IsStep, Common.Size, Estimates.estimate_to, Queues.entry_at}
use Rattle.std.specs.Prelude.{replicate, slice_index_or, slice_set, suc, true, zero, ℕ, ◌*◌, ◌+◌, ◌/◌, ◌≡◌, ◌≤◌}
use Rattle.std.specs.{Int.abs_diff, Option.is_some, Prelude.List, Prelude.None, Prelude.Option, Prelude.Some, Prelude.length, Prelude.max, Prelude.min}

abbrev pub size_by : Landmarks → Size
size_by l = record { width = l.width; depth = l.depth }

-- the row of a cell, if it has one
abbrev pub row_in : Landmarks → Cell → Option (List ℕ)
row_in l c = entry_at None (size_by l) l.items.items c

-- half of a cost, cut at the greatest number of 16 bits
abbrev pub half_of : ℕ → ℕ
half_of cost = min (cost / 2) 65535

-- half of a cost, cut, or nothing where there is none
abbrev pub number_of : Option ℕ → ℕ
number_of None = 0
number_of (Some cost) = half_of cost

-- a row of nothing, where there is a cost
abbrev pub alike : Option ℕ → Option (List ℕ)
alike None = None
alike (Some cost) = Some (replicate 8 0)

-- a row with half of the cost in one place, where there is a cost
abbrev pub row_with : ℕ → Option (List ℕ) → Option ℕ → Option (List ℕ)
row_with which None cost = None
row_with which (Some row) None = None
row_with which (Some row) (Some cost) = Some (slice_set row which (half_of cost))

-- how far the first n numbers of two rows lie apart at most
abbrev pub apart : ℕ → List ℕ → List ℕ → ℕ
apart zero a b = 0
apart (suc n) a b = max (apart n a b) (abs_diff (slice_index_or a n 0) (slice_index_or b n 0))

-- what a walk between two cells costs at least, by their rows
abbrev pub between : Option (List ℕ) → Option (List ℕ) → ℕ
between None b = 0
between (Some a) None = 0
between (Some a) (Some b) = 2 * apart 8 a b

-- Of two open cells that lie a step apart, both have rows or none, and no two numbers of these lie further apart than half of what the step costs.
-- No closed cell has a row.
pub record AreLandmarks (field : Field) (row : Cell → Option (List ℕ)) : Type 0 where
  pub full : (c : Cell) (own : List ℕ) → row c ≡ Some own → length own ≡ 8
  pub onwards : (start a b : Cell) (k : ℕ) → field.is_open start ≡ true → IsStep field start a b k → is_some (row a) ≡ true → is_some (row b) ≡ true
  pub back : (start a b : Cell) (k : ℕ) → field.is_open start ≡ true → IsOnGround field.size a → field.is_open a ≡ true → IsStep field start a b k
      → is_some (row b) ≡ true → is_some (row a) ≡ true
  pub near : (start a b : Cell) (k : ℕ) (p q : List ℕ) → field.is_open start ≡ true → IsStep field start a b k → row a ≡ Some p → row b ≡ Some q
      → (i : ℕ) → 2 * abs_diff (slice_index_or p i 0) (slice_index_or q i 0) ≤ k

-- the greater of the octile estimate and of what the landmarks tell
abbrev pub estimate_by : Ahead → Cell → ℕ
estimate_by it c = max (estimate_to it.aim c) (between (row_in it.landmarks.now c) it.row)

-- Half the least costs of walks from one goal, and the estimate that they are.

abbrev pub size_about : Distances → Size
size_about d = record { width = d.width; depth = d.depth }

-- the number of a cell
abbrev pub number_in : Distances → Cell → ℕ
number_in d c = entry_at 0 (size_about d) d.items.items c

-- Numbers that are 0 at the goal, and of which no two of open cells that lie a step apart differ by more than half of what the step costs.
pub record AreDistances (field : Field) (goal : Cell) (number : Cell → ℕ) : Type 0 where
  pub here : number goal ≡ 0
  pub onwards : (start a b : Cell) (k : ℕ) → field.is_open start ≡ true → IsStep field start a b k → 2 * number a ≤ k + 2 * number b
  pub back : (start a b : Cell) (k : ℕ) → field.is_open start ≡ true → IsOnGround field.size a → field.is_open a ≡ true → IsStep field start a b k
      → 2 * number b ≤ k + 2 * number a

-- twice the number of a cell
abbrev pub estimate_toward : Toward → Cell → ℕ
estimate_toward it c = 2 * number_in it.distances.now c
