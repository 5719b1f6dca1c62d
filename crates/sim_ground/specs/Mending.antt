-- Before which turns of the ground labels may be mended, and what becomes of them.
use Rattle.{sim_base.specs.{declared.place.Cell.Cell, Places.{IsOnGround, Size}}, sim_grid.specs.Grids.{field_of_grid, is_open_at, OpenCells}}
use Rattle.sim_search.specs.{declared.labels.Labels.Labels, Floods.{AreLabels, label_in, labelled}}
use Rattle.std.specs.Prelude.{Bool, Contains, false, if◌then◌else◌, is_some, List, not, Option, true, ℕ, ◌&&◌, ◌≡◌, ◌⊎◌}

-- Which cells a rectangle that came or went closed or opened.

-- of the cells that were open those are closed that some have covered
abbrev pub Closes : Size → (Cell → Bool) → (Cell → Bool) → (Cell → Bool) → Type 0
Closes size old new covered = (c : Cell) → IsOnGround size c → new c ≡ (old c && not (covered c))

-- cells were closed where nothing was taken, and opened where nothing was put down
pub record AreTurned (size : Size) (old new before after : Cell → Bool) : Type 0 where
  pub came : ((c : Cell) → before c ≡ false) → Closes size old new after
  pub went : ((c : Cell) → after c ≡ false) → Closes size new old before

-- whether a cell is closed and has a label, or is open and has none
abbrev pub is_turned : OpenCells → (Cell → Option ℕ) → Cell → Bool
is_turned g label c = if is_some (label c) then not (is_open_at g c) else is_open_at g c

-- such cells among these were added to a list, and no other
pub record AddsTurned (g : OpenCells) (label : Cell → Option ℕ) (among : Cell → Bool) (old new : List Cell) : Type 0 where
  pub each : (c : Cell) → Contains new c → Contains old c ⊎ (IsOnGround g.size c × (is_turned g label c ≡ true))
  pub keeps : (c : Cell) → Contains old c → Contains new c
  pub all : (c : Cell) → IsOnGround g.size c → among c ≡ true → is_turned g label c ≡ true → Contains new c

-- labels are those of the cells that have one, and of these the covered ones were closed
pub record MayClose (grid : OpenCells) (covered : Cell → Bool) (known : Labels) : Type 0 where
  pub labels : AreLabels (labelled grid.size (label_in known)) (label_in known)
  pub closes : Closes grid.size (λ c. is_some (label_in known c)) (is_open_at grid) covered

-- they are so, and the covered ones of the open cells are those that have none
pub record MayOpen (grid : OpenCells) (covered : Cell → Bool) (known : Labels) : Type 0 where
  pub labels : AreLabels (labelled grid.size (label_in known)) (label_in known)
  pub opens : Closes grid.size (is_open_at grid) (λ c. is_some (label_in known c)) covered

-- they are so, and what was covered before was taken and what is covered after was put down
pub record MayMend (grid : OpenCells) (before after : Cell → Bool) (known : Labels) : Type 0 where
  pub labels : AreLabels (labelled grid.size (label_in known)) (label_in known)
  pub turned : AreTurned grid.size (λ c. is_some (label_in known c)) (is_open_at grid) before after

-- they are those of the grid, or as they were
pub record AreMended (grid : OpenCells) (told : Bool) (old new : Labels) : Type 0 where
  pub mended : told ≡ true → AreLabels (field_of_grid grid) (label_in new)
  pub same : told ≡ false → new ≡ old
