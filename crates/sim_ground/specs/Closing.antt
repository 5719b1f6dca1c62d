-- Stretches of cells, and the grid of the open cells of a land with obstructions.
use Rattle.{sim_base.specs.{declared.{place.Cell.Cell, setup.Land.Land}, Places.{IsOnGround, Size}, Rows.size_of}, sim_grid.specs.Grids.{is_open_at, OpenCells}}
use Rattle.{sim_ground.specs.declared.window.Window.Window, sim_system.specs.{declared.fact.Fact.Fact, Meanings.is_open_among}}
use Rattle.std.specs.Prelude.{Bool, List, nat_le, nat_lt, ℕ, ◌&&◌, ◌==◌, ◌≡◌, ◌≤◌}

-- the cells of a row, from the first to before the end
abbrev pub in_row : ℕ → ℕ → ℕ → Cell → Bool
in_row z west east c = c.z == z && (nat_le west c.x && nat_lt c.x east)

-- the same cells of several rows, from the first row to before the end
abbrev pub in_rows : ℕ → ℕ → ℕ → ℕ → Cell → Bool
in_rows south north west east c = (nat_le south c.z && nat_lt c.z north) && (nat_le west c.x && nat_lt c.x east)

-- the grid has the size of the land, and says of each cell whether it is open among the facts
pub record IsOver (land : Land) (facts : List Fact) (g : OpenCells) : Type 0 where
  pub size : g.size ≡ size_of land
  pub opens : (c : Cell) → IsOnGround (size_of land) c → is_open_at g c ≡ is_open_among land facts c

-- The window of a rectangle on a ground.

-- its rows and columns are of a ground of this size, and no end comes before the first
pub record LiesOn (size : Size) (window : Window) : Type 0 where
  pub rows : window.south ≤ window.north
  pub north : window.north ≤ size.depth
  pub order : window.west ≤ window.east
  pub east : window.east ≤ size.width

-- whether a cell is in it
abbrev pub in_window : Window → Cell → Bool
in_window window c = in_rows window.south window.north window.west window.east c
