-- A step of the walk over the rows of two states: what they need for it, the entity that comes next, the rows behind it, and
-- whether both lists begin with one row.
use Rattle.{sim_base.specs.{declared.state.{Row.Row, State.State}, Rows.{id_of, row_of}}, sim_bytes.specs.Rows.HasShortWay}
use Rattle.std.specs.{List.Sorted.IsStrictlyIncreasing, Prelude.{All, find, if◌then◌else◌, List, map, min, None, Option, Some, ℕ, [], ◌==◌, ◌∷◌, ◌≡◌}}

-- the ids of both states ascend, and no way in them is too long for its bytes to be told
pub record AreComparable (left right : State) : Type 0 where
  pub left_ascending : IsStrictlyIncreasing (map id_of left.rows)
  pub left_short : All HasShortWay left.rows
  pub right_ascending : IsStrictlyIncreasing (map id_of right.rows)
  pub right_short : All HasShortWay right.rows

-- the lesser of the first ids
abbrev pub next_id : List Row → List Row → Option ℕ
next_id [] [] = None
next_id (row ∷ rows) [] = Some row.id
next_id [] (row ∷ rows) = Some row.id
next_id (row ∷ rows) (row' ∷ rows') = Some (min row.id row'.id)

-- the rows without a first one of this entity
abbrev pub rows_behind : ℕ → List Row → List Row
rows_behind entity [] = []
rows_behind entity (row ∷ rows) = if row.id == entity then rows else row ∷ rows

-- both lists begin with the same row
abbrev pub HaveSameFirst : List Row → List Row → Type 0
HaveSameFirst [] rights = ⊥
HaveSameFirst (row ∷ rows) [] = ⊥
HaveSameFirst (row ∷ rows) (row' ∷ rows') = row ≡ row'

-- what is found among the rows is the row of the state
abbrev pub AreRowsOf : State → List Row → Type 0
AreRowsOf state rows = (id : ℕ) (row : Row) → find (λ (r : Row). r.id == id) rows ≡ Some row → row_of state id ≡ Some row
