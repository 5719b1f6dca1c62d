-- A table of influences, and how a building changes it.
use Rattle.sim_territory.specs.{Buildings.share_of, Common.{Born, Cell, Gone, IsOnGround, IsSetup, Mark, place_of, Setup, Shift, Size, weight_born}}
use Rattle.{sim_territory.specs.{Common.weight_gone, declared.{building.Building.Building, sums.Sums.Sums}, Influence.share}, std.specs.Prelude.All}
use Rattle.std.specs.Prelude.{Bool, false, if◌then◌else◌, List, nat_le, nat_lt, slice_index, sum_by, true, ℕ, ◌&&◌, ◌*◌, ◌+◌, ◌-◌, ◌<◌, ◌==◌, ◌^◌, ◌≡◌, ◌≤◌}

-- the ground of a table
abbrev pub size_in : Sums → Size
size_in sums = record { width = sums.width; depth = sums.depth }

-- where the influence of a player at a cell stands in a list by player, then z, then x
abbrev pub sum_place : Size → ℕ → Cell → ℕ
sum_place size player c = (player - 1) * (size.width * size.depth) + place_of size c

-- the influence of a player at a cell
abbrev pub sum_at : Sums → ℕ → Cell → ℕ
sum_at sums player c = slice_index sums.items.items (sum_place (size_in sums) player c)

-- two tables are of one ground and of as many players
pub record HasShapeOf (old new : Sums) : Type 0 where
  pub width : new.width ≡ old.width
  pub depth : new.depth ≡ old.depth
  pub players : new.players ≡ old.players

-- the influence of one player at one cell is another now
pub record IsSummed (old new : Sums) (player : ℕ) (cell : Cell) (influence : ℕ) : Type 0 where
  pub shape : HasShapeOf old new
  pub here : sum_at new player cell ≡ influence
  pub beside : (other : ℕ) → 1 ≤ other → (other ≡ player → ⊥) → sum_at new other cell ≡ sum_at old other cell
  pub elsewhere : (other : ℕ) (c : Cell) → IsOnGround (size_in old) c → (c ≡ cell → ⊥) → sum_at new other c ≡ sum_at old other c

-- so much more than before, or less
abbrev pub Moves : Bool → ℕ → ℕ → ℕ → Type 0
Moves true n old new = new ≡ old + n
Moves false n old new = new + n ≡ old

-- so much more fits, or there is so much to be taken
abbrev pub MayMove : Bool → ℕ → ℕ → Type 0
MayMove true n old = old + n < 2 ^ 32
MayMove false n old = n ≤ old

-- a player of the table, and a cell of its ground
pub record IsPlaceIn (sums : Sums) (player : ℕ) (c : Cell) : Type 0 where
  pub least : 1 ≤ player
  pub most : player ≤ sums.players
  pub ground : IsOnGround (size_in sums) c

-- each player has so much more at each cell, or less
pub record SumsMove (more : Bool) (by : ℕ → Cell → ℕ) (old new : Sums) : Type 0 where
  pub shape : HasShapeOf old new
  pub each : (player : ℕ) (c : Cell) → IsPlaceIn old player c → Moves more (by player c) (sum_at old player c) (sum_at new player c)

-- each of them may
abbrev pub MaySumsMove : Bool → (ℕ → Cell → ℕ) → Sums → Type 0
MaySumsMove more by sums = (player : ℕ) (c : Cell) → IsPlaceIn sums player c → MayMove more (by player c) (sum_at sums player c)

-- what a building gives at some of the cells
abbrev pub share_where : (Cell → Bool) → Building → ℕ → Cell → ℕ
share_where which building player c = if which c then share_of building player c else 0

-- the cells of row z from the first column to before the end
abbrev pub in_part : ℕ → ℕ → ℕ → Cell → Bool
in_part z first end c = c.z == z && (nat_le first c.x && nat_lt c.x end)

-- a building stands on the ground of a table, of which z is a row, and may come or go at these cells
pub record MayShiftRow (comes : Bool) (building : Building) (z : ℕ) (which : Cell → Bool) (sums : Sums) : Type 0 where
  pub place : IsPlaceIn sums building.owner building.cell
  pub row : z < sums.depth
  pub may : MaySumsMove comes (share_where which building) sums

-- what an entity gives to each player's influence at each cell
abbrev pub share_by : Setup → Mark → ℕ → Cell → ℕ
share_by setup mark player c = share setup player c mark

-- what leaves a player's influence at a cell by a shift, and what comes to it
abbrev pub leaving : Setup → ℕ → Cell → Shift → ℕ
leaving setup player c = weight_gone (share setup player c)

abbrev pub coming : Setup → ℕ → Cell → Shift → ℕ
coming setup player c = weight_born (share setup player c)

-- the mark that comes or goes
abbrev pub mark_in : Shift → Mark
mark_in (Gone mark) = mark
mark_in (Born mark) = mark

-- a mark is of a player of the table or of Gaia, on its ground
pub record IsMarkIn (sums : Sums) (mark : Mark) : Type 0 where
  pub owner : mark.owner ≤ sums.players
  pub ground : IsOnGround (size_in sums) mark.cell

-- a match within its limits, and an entity on the ground of a table
pub record IsEntityOf (setup : Setup) (mark : Mark) (sums : Sums) : Type 0 where
  pub limits : IsSetup setup
  pub within : IsMarkIn sums mark

-- the match is within its limits, all that leaves is there, and all that comes fits
pub record FitShifts (setup : Setup) (shifts : List Shift) (sums : Sums) : Type 0 where
  pub limits : IsSetup setup
  pub marks : All (λ shift. IsMarkIn sums (mark_in shift)) shifts
  pub there : (player : ℕ) (c : Cell) → IsPlaceIn sums player c → sum_by (leaving setup player c) shifts ≤ sum_at sums player c
  pub room : (player : ℕ) (c : Cell) → IsPlaceIn sums player c → sum_at sums player c + sum_by (coming setup player c) shifts < 2 ^ 32

-- what left and what came is the difference of the two
pub record AreShifted (setup : Setup) (shifts : List Shift) (old new : Sums) : Type 0 where
  pub shape : HasShapeOf old new
  pub each : (player : ℕ) (c : Cell) → IsPlaceIn old player c → sum_at new player c + sum_by (leaving setup player c) shifts ≡ sum_at old player c +
      sum_by (coming setup player c) shifts

-- the match is within its limits, what leaves by one shift is there, and what comes fits
pub record FitsShift (setup : Setup) (shift : Shift) (sums : Sums) : Type 0 where
  pub limits : IsSetup setup
  pub mark : IsMarkIn sums (mark_in shift)
  pub there : (player : ℕ) (c : Cell) → IsPlaceIn sums player c → leaving setup player c shift ≤ sum_at sums player c
  pub room : (player : ℕ) (c : Cell) → IsPlaceIn sums player c → sum_at sums player c + coming setup player c shift < 2 ^ 32

-- what left by one shift and what came is the difference of the two
pub record IsShifted (setup : Setup) (shift : Shift) (old new : Sums) : Type 0 where
  pub shape : HasShapeOf old new
  pub each : (player : ℕ) (c : Cell) → IsPlaceIn old player c → sum_at new player c + leaving setup player c shift ≡ sum_at old player c + coming setup player c
      shift
