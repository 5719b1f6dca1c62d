-- Points, cells and rectangles of a ground.
use Rattle.{sim_base.specs.declared.place.{Cell.Cell, Point.Point, Rect.Rect}, std.specs.Cmp.Lexicographic.pointwise}
use Rattle.std.specs.{Int.{abs_diff, int_div_euclid}, List.{flat_map, range_with_len}, Prelude.{Bool, if◌then◌else◌, int_div, int_le, int_lt, IsTrue, List}}
use Rattle.std.specs.Prelude.{map, max, min, nat_le, nat_lt, neg_ℤ, None, Option, option_and_then, pos, slice_get, slice_index_or, Some, suc, unsigned_abs}
use Rattle.std.specs.Prelude.{zero, ℕ, ℤ, [], ◌%◌, ◌&&◌, ◌*ℤ◌, ◌*◌, ◌+ℤ◌, ◌+◌, ◌-ℤ◌, ◌-◌, ◌/◌, ◌<ℤ◌, ◌<◌, ◌==◌, ◌^◌, ◌||◌, ◌∷◌, ◌≡◌, ◌≤ℤ◌, ◌≤◌}

-- Fixed-point numbers by their raws, the whole numbers of units of 1/65536; the root; the random word.

-- the raw of 1
abbrev pub unit : ℕ
unit = 65536

-- the product of two raws, rounded down
abbrev pub product : ℤ → ℤ → ℤ
product a b = int_div_euclid (a *ℤ b) (pos unit)

-- the quotient of two raws, truncated towards zero
abbrev pub quotient : ℤ → ℤ → ℤ
quotient a b = int_div (a *ℤ pos unit) b

-- whether a whole number is a raw, which has 32 bits
abbrev pub is_raw : ℤ → Bool
is_raw z = int_le (neg_ℤ (pos 2147483648)) z && int_le z (pos 2147483647)

-- the greatest number up to a bound that passes a test, or 0
abbrev pub greatest : (ℕ → Bool) → ℕ → ℕ
greatest test zero = 0
greatest test (suc bound) = if test (suc bound) then suc bound else greatest test bound

-- the greatest number whose square is at most n
unfoldable pub root : ℕ → ℕ
root n = greatest (λ r. nat_le (r * r) n) n

-- r is the root of n
pub record IsRoot (n r : ℕ) : Type 0 where
  pub within : r * r ≤ n
  pub above : n < (r + 1) * (r + 1)

-- one step of the generator known as rand48
abbrev pub next_word : ℕ → ℕ
next_word word = (word * 0x5DEECE66D + 0xB) % 2 ^ 48

-- a ground has width by depth cells of one metre
pub record Size : Type 0 where
  pub width : ℕ
  pub depth : ℕ

-- a raw lies on so many cells
abbrev pub is_within : ℤ → ℕ → Bool
is_within raw cells = int_le (pos 0) raw && int_lt raw (pos (cells * unit))

-- a point lies on the ground
abbrev pub is_inside : Size → Point → Bool
is_inside size p = is_within p.x size.width && is_within p.z size.depth

-- a point lies on the largest ground, which has 256 by 256 cells
pub record IsPlaced (p : Point) : Type 0 where
  pub west : pos 0 ≤ℤ p.x
  pub east : p.x <ℤ pos 16777216
  pub south : pos 0 ≤ℤ p.z
  pub north : p.z <ℤ pos 16777216

-- each raw of a point, none below 0, divided by 65536 and rounded down
abbrev pub cell_of : Point → Cell
cell_of p = record { x = unsigned_abs p.x / unit; z = unsigned_abs p.z / unit }

-- half a metre from each side of the cell
abbrev pub centre_of : Cell → Point
centre_of c = record { x = pos (c.x * unit + 32768); z = pos (c.z * unit + 32768) }

-- the two are one cell
abbrev pub same_cell : Cell → Cell → Bool
same_cell a b = a.x == b.x && a.z == b.z

-- the sum of the squared raw differences
abbrev pub square : Point → Point → ℕ
square p q = unsigned_abs (p.x -ℤ q.x) * unsigned_abs (p.x -ℤ q.x) + unsigned_abs (p.z -ℤ q.z) * unsigned_abs (p.z -ℤ q.z)

-- an obstruction of width by depth cells begins half of these, rounded down, before the cell of its point
abbrev pub rect_of : Point → ℕ → ℕ → Rect
rect_of p width depth =
    let c = cell_of p in
    record {
      x0 = pos c.x -ℤ pos (width / 2);
      z0 = pos c.z -ℤ pos (depth / 2);
      x1 = pos c.x -ℤ pos (width / 2) +ℤ pos width -ℤ pos 1;
      z1 = pos c.z -ℤ pos (depth / 2) +ℤ pos depth -ℤ pos 1;
    }

-- a cell lies in a rectangle, whose ends belong to it
abbrev pub covers : Rect → Cell → Bool
covers r c = int_le r.x0 (pos c.x) && int_le (pos c.x) r.x1 && int_le r.z0 (pos c.z) && int_le (pos c.z) r.z1

-- a rectangle lies on the ground
abbrev pub is_rect_inside : Size → Rect → Bool
is_rect_inside size r = int_le (pos 0) r.x0 && int_lt r.x1 (pos size.width) && int_le (pos 0) r.z0 && int_lt r.z1 (pos size.depth)

-- the cells of a ground by z, then x
abbrev pub cells_of : Size → List Cell
cells_of size = flat_map (λ z. map (λ x. record { x = x; z = z }) (range_with_len 0 size.width)) (range_with_len 0 size.depth)

-- Tables: a value for each cell of a ground, row by row.

-- the rows of a ground, from the first on, each with a value for each of its cells
abbrev pub Table : Type 0 → Type 0
Table X = List (List X)

-- the table that has f of each cell
abbrev pub table_of : {X : Type 0} → Size → (Cell → X) → Table X
table_of size f = map (λ z. map (λ x. f (record { x = x; z = z })) (range_with_len 0 size.width)) (range_with_len 0 size.depth)

-- what the table has at a cell, or else the other value
abbrev pub entry : {X : Type 0} → X → Table X → Cell → X
entry other table c = slice_index_or (slice_index_or table c.z []) c.x other

-- the two tables have equal entries
abbrev pub same_table : {X : Type 0} → (X → X → Bool) → Table X → Table X → Bool
same_table equal s t = pointwise (pointwise equal) s t

-- Steps over a ground: from a cell to one of the eight about it.

-- a ground, and which of its cells are open
pub record Field : Type 0 where
  pub size : Size
  pub is_open : Cell → Bool

-- the cell is one of the ground's
pub record IsOnGround (size : Size) (c : Cell) : Type 0 where
  pub east : c.x < size.width
  pub north : c.z < size.depth

-- one cell further, as far, and one cell less far
abbrev pub forward : ℤ
forward = pos 1

-- no step along an axis
abbrev pub level : ℤ
level = pos 0

-- one step back along an axis
abbrev pub back : ℤ
back = neg_ℤ (pos 1)

-- the eight directions in their order: E, N, W, S, NE, NW, SW, SE
abbrev pub offsets : List (ℤ × ℤ)
offsets = (forward, level) ∷ (level, forward) ∷ (back, level) ∷ (level, back) ∷ (forward, forward) ∷ (back, forward) ∷ (back, back) ∷ (forward, back) ∷ []

-- the cell at these two numbers, if it is one of the ground's
abbrev pub cell_at : Size → ℤ → ℤ → Option Cell
cell_at size x z =
    if int_le (pos 0) x && int_lt x (pos size.width) && int_le (pos 0) z && int_lt z (pos size.depth)
    then Some (record { x = unsigned_abs x; z = unsigned_abs z })
    else None

-- the cell next to c in that direction, if the ground has one
abbrev pub neighbour : Size → Cell → ℕ → Option Cell
neighbour size c which = option_and_then (λ (d : ℤ × ℤ). cell_at size (pos c.x +ℤ d.0) (pos c.z +ℤ d.1)) (slice_get offsets which)

-- the first four directions are straight, the others diagonal
abbrev pub is_straight : ℕ → Bool
is_straight which = nat_lt which 4

-- what a step in that direction costs
abbrev pub step_cost : ℕ → ℕ
step_cost which = if is_straight which then 10 else 14

-- a cell may be entered where it is open; the start counts as open
abbrev pub is_free : Field → Cell → Cell → Bool
is_free field start c = same_cell c start || field.is_open c

-- both cells beside a diagonal step from a to b pass the test
abbrev pub beside_open : (Cell → Bool) → Cell → Cell → Bool
beside_open free a b = free (record { x = a.x; z = b.z }) && free (record { x = b.x; z = a.z })

-- a step goes to a neighbour that is free, a diagonal one between two free cells
pub record IsStep (field : Field) (start a b : Cell) (cost : ℕ) : Type 0 where
  pub which : ℕ
  pub leads : neighbour field.size a which ≡ Some b
  pub free : IsTrue (is_free field start b)
  pub beside : IsTrue (is_straight which || beside_open (is_free field start) a b)
  pub cost_is : cost ≡ step_cost which

-- the least cost from a to b with nothing between: diagonal steps along the shorter side, straight ones for the rest
abbrev pub octile : Cell → Cell → ℕ
octile a b =
    let x = abs_diff a.x b.x in
    let z = abs_diff a.z b.z in
    14 * min x z + 10 * (max x z - min x z)
