-- A state as it is read: the numbers of the clock, then the sections, and then each row put together from all of them.
use Rattle.sim_bytes.specs.Reading.{◌>>=◌}
use Rattle.sim_codec.specs.Common.{IsKnownRow, number_at, parts_at, Point, Row, row_limit, row_of, sections_at, Setup, State, Template, Version, w32, w64, Walk}
use Rattle.std.specs.Prelude.{[], if◌then◌else◌, is_some, List, map, nat_lt, None, Option, slice_get, Some, suc, zero, ℕ, ◌<◌, ◌∷◌, ◌≡◌, ◌≤◌}

-- the next row
unfoldable pub row_at : List Template → Walk → Option (Row × Walk)
row_at templates w = parts_at templates w >>= λ p. Some (row_of p.0, p.1)

-- so many rows
unfoldable pub rows_at : List Template → ℕ → Walk → Option (List Row × Walk)
rows_at templates zero w = Some ([], w)
rows_at templates (suc n) w = row_at templates w >>= λ r. rows_at templates n r.1 >>= λ rs. Some (r.0 ∷ rs.0, rs.1)

-- the state behind the id of the match, if it has few rows; what follows its rows is not looked at
unfoldable pub state_at : Version → Setup → List ℕ → Option State
state_at version setup bytes =
    number_at w32 bytes >>= λ turn. number_at w32 turn.1 >>= λ next. number_at w64 next.1 >>= λ word. sections_at version word.1 >>= λ found.
    if nat_lt row_limit found.0.0 then None else rows_at setup.templates found.0.0 found.0.1 >>= λ rs. Some
    (record { turn = turn.0; next = next.0; word = word.0; rows = rs.0 })

-- What a quick digest tells of a state.

-- which entity it is, and where
abbrev pub place_of : Row → ℕ × Point
place_of row = (row.id, row.at)

-- two states have the same clock, and the same entities at the same places
pub record HaveSamePlaces (s t : State) : Type 0 where
  pub turn : s.turn ≡ t.turn
  pub next : s.next ≡ t.next
  pub word : s.word ≡ t.word
  pub rows : map place_of s.rows ≡ map place_of t.rows

-- Rows that stand in bytes: which they are, and what is tested of them one after the other.

-- the rows that were read, none where they cannot be
abbrev pub rows_in : Option (List Row × Walk) → List Row
rows_in None = []
rows_in (Some read) = read.0

-- each row is one of the match, with an id from 2 on that is below the next free one
abbrev pub AreGood : Setup → List Row → ℕ → List Row → Type 0
AreGood setup all next [] = Unit {0}
AreGood setup all next (row ∷ rows) = (((2 ≤ row.id) × (row.id < next)) × IsKnownRow 1 setup all row) × AreGood setup all next rows

-- Which parts a row has by its template.

-- a row has the parts of its template
pub record IsLike (row : Row) (template : Template) : Type 0 where
  pub health : is_some row.health ≡ is_some template.health
  pub motion : is_some row.motion ≡ is_some template.speed
  pub attack : is_some row.attack ≡ is_some template.arms

-- its template is among these, and it has the parts of that
pub record HasParts (templates : List Template) (row : Row) : Type 0 where
  pub template : Template
  pub known : slice_get templates row.template ≡ Some template
  pub like : IsLike row template
