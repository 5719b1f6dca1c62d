-- Rows are released, one after another.
use Rattle.sim_base.specs.{Commands.released, declared.state.Row.Row, declared.state.State.State}
use Rattle.std.specs.Prelude.{filter, fold, if◌then◌else◌, List, map, not, ℕ, ◌==◌}

-- the row with this id is released
abbrev pub row_released : List Row → ℕ → List Row
row_released rows id = map (λ (row : Row). if row.id == id then released row else row) rows

-- so are the rows with these ids
abbrev pub rows_released : List ℕ → List Row → List Row
rows_released ids rows = fold row_released rows ids

-- the rows with these ids are released, and then the row with that id leaves
abbrev pub left_by : ℕ → List ℕ → State → State
left_by id ids state = record state { rows = filter (λ (row : Row). not (row.id == id)) (rows_released ids state.rows) }
