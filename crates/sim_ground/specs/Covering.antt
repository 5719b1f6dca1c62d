-- What the layers of a cover may be drawn of, and what becomes of it where layers come or go.
use Rattle.sim_base.specs.{declared.{place.Cell.Cell, setup.Land.Land}, Limits.IsLand}
use Rattle.{sim_ground.specs.{declared.cover.Cover.Cover, Layers.{AreAtMost, LayersChange, LayersRise, most_layers}}, sim_system.specs.declared.fact.Fact.Fact}
use Rattle.std.specs.Prelude.{Bool, false, length, List, ℕ, ◌≡◌, ◌≤◌}

-- a land is within its limits, and has no more obstructions than a match has entities
pub record MayDraw (land : Land) (facts : List Fact) : Type 0 where
  pub limits : IsLand land
  pub few : length facts ≤ 4096

-- so many rectangles may come, each with one layer more over its cells
pub record MayBuild (count : ℕ) (cover : Cover) : Type 0 where
  pub most : AreAtMost most_layers cover.grid.size cover.layers.items
  pub few : count ≤ 4096

-- these cells had one layer more, or one fewer; where no cell was closed or opened by that, the grid is as it was
pub record Changes (more : Bool) (which : Cell → Bool) (turned : Bool) (old new : Cover) : Type 0 where
  pub size : new.grid.size ≡ old.grid.size
  pub layers : LayersChange more which old.grid.size old.layers.items new.layers.items
  pub same : turned ≡ false → new.grid ≡ old.grid

-- each cell has so many layers more
pub record Rises (more : Cell → ℕ) (old new : Cover) : Type 0 where
  pub size : new.grid.size ≡ old.grid.size
  pub layers : LayersRise more old.grid.size old.layers.items new.layers.items
