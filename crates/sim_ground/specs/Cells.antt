-- The cells of a ground, row by row, and the nearer one of two.
use Rattle.sim_base.specs.{declared.place.{Cell.Cell, Point.Point, Rect.Rect}, Places.{centre_of, square}, Ways.lesser_of}
use Rattle.std.specs.{List.{flat_map, range_with_len}, Prelude.{Bool, false, int_le, List, map, None, Option, Some, ℕ, ℤ, [], ◌&&◌, ◌<◌, ◌∷◌, ◌≡◌}}

-- the first n cells of row z
abbrev pub row_of : ℕ → ℕ → List Cell
row_of z n = map (λ x. record { x = x; z = z }) (range_with_len 0 n)

-- the first n rows, of so many cells each
abbrev pub rows_of : ℕ → ℕ → List Cell
rows_of width n = flat_map (λ z. row_of z width) (range_with_len 0 n)

-- a cell of the largest ground
pub record IsSmall (c : Cell) : Type 0 where
  pub east : c.x < 256
  pub north : c.z < 256

-- so it is where there is one
abbrev pub IsSmallIfAny : Option Cell → Type 0
IsSmallIfAny best = (c : Cell) → best ≡ Some c → IsSmall c

-- what cells are compared by: the square of the centre and the point, z and x
abbrev pub spot_key : Point → Cell → List ℕ
spot_key p c = square (centre_of c) p ∷ c.z ∷ c.x ∷ []

-- the nearer one of the best so far, if any, and another
abbrev pub nearer : Point → Option Cell → Cell → Option Cell
nearer p best c = Some (lesser_of (spot_key p) best c)

-- Rectangles with a cell in common.

-- two stretches of numbers, whose ends are theirs, have a number in common
abbrev pub meet : ℤ → ℤ → ℤ → ℤ → Bool
meet low high other_low other_high = (int_le low high && int_le other_low other_high) && (int_le low other_high && int_le other_low high)

-- two rectangles have a cell in common
abbrev pub overlap : Rect → Rect → Bool
overlap a b = meet a.x0 a.x1 b.x0 b.x1 && meet a.z0 a.z1 b.z0 b.z1

-- a rectangle and that of an entity, if it is an obstruction
abbrev pub overlaps_any : Rect → Option Rect → Bool
overlaps_any a None = false
overlaps_any a (Some b) = overlap a b
