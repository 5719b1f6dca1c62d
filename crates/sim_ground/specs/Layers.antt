-- How many rectangles cover each cell, and what one more or fewer changes.
use Rattle.sim_base.specs.{Commands.rect_covers, declared.{place.Cell.Cell, setup.Land.Land}, Places.{covers, IsOnGround, Size}, Rows.size_of}
use Rattle.{sim_fact_lists.specs.Changes.{one_if, passes}, sim_grid.specs.Grids.{is_open_at, OpenCells, place_of}}
use Rattle.sim_search.specs.{declared.labels.Labels.Labels, Floods.{AreLabels, label_in}}
use Rattle.{sim_system.specs.{declared.fact.Fact.Fact, Meanings.field_among}, std.specs.Prelude.Bool}
use Rattle.std.specs.Prelude.{count_by, false, IsNone, length, List, MatchOption, None, Option, slice_index, Some, true, ℕ, [], ◌*◌, ◌+◌, ◌<◌, ◌==◌, ◌≡◌, ◌≤◌}

-- the number of closed rectangles and of obstructions that cover a cell
abbrev pub layers_among : Land → List Fact → Cell → ℕ
layers_among land facts c = count_by (λ r. covers r c) land.closed + count_by (λ (fact : Fact). rect_covers fact.rect c) facts

-- what a list by z, then x, has for a cell
abbrev pub layers_at : Size → List ℕ → Cell → ℕ
layers_at size layers c = slice_index layers (place_of size c)

-- whether what is kept of an entity covers a cell
abbrev pub part_covers : Option Fact → Cell → Bool
part_covers part c = passes (λ (fact : Fact). rect_covers fact.rect c) part

-- nothing covers any cell
abbrev pub no_part : Cell → Bool
no_part c = false

-- a cell of the grid is open just where no layer is over it
pub record AreOpenWhereNone (g : OpenCells) (layers : List ℕ) : Type 0 where
  pub full : length layers ≡ g.size.width * g.size.depth
  pub each : (c : Cell) → IsOnGround g.size c → is_open_at g c ≡ (layers_at g.size layers c == 0)

-- so many more than before, or fewer
abbrev pub Steps : Bool → ℕ → ℕ → ℕ → Type 0
Steps true n old new = new ≡ old + n
Steps false n old new = new + n ≡ old

-- one more is no more than fits, or there is one to be taken
abbrev pub MayStep : Bool → ℕ → Type 0
MayStep true n = n < 65535
MayStep false n = 0 < n

-- these cells have one layer more, or one fewer, and the others as many as before
abbrev pub LayersChange : Bool → (Cell → Bool) → Size → List ℕ → List ℕ → Type 0
LayersChange more which size old new = (c : Cell) → IsOnGround size c → Steps more (one_if (which c)) (layers_at size old c) (layers_at size new c)

-- these cells may do so
abbrev pub MayChange : Bool → (Cell → Bool) → Size → List ℕ → Type 0
MayChange more which size layers = (c : Cell) → IsOnGround size c → which c ≡ true → MayStep more (layers_at size layers c)

-- a land has at most 4096 closed rectangles, and as many obstructions
abbrev pub most_layers : ℕ
most_layers = 4096 + 4096

-- no cell has more layers than that
abbrev pub AreAtMost : ℕ → Size → List ℕ → Type 0
AreAtMost most size layers = (c : Cell) → IsOnGround size c → layers_at size layers c ≤ most

-- each cell has so many more
abbrev pub LayersRise : (Cell → ℕ) → Size → List ℕ → List ℕ → Type 0
LayersRise more size old new = (c : Cell) → IsOnGround size c → layers_at size new c ≡ layers_at size old c + more c

-- one is taken and another is put down
abbrev pub LayersTurn : (Cell → Bool) → (Cell → Bool) → Size → List ℕ → List ℕ → Type 0
LayersTurn before after size old new = (c : Cell) → IsOnGround size c → layers_at size new c + one_if (before c) ≡ layers_at size old c + one_if (after c)

-- each cell has as many layers as cover it among the facts
abbrev pub AreLayersOf : Land → List Fact → List ℕ → Type 0
AreLayersOf land facts layers = (c : Cell) → IsOnGround (size_of land) c → layers_at (size_of land) layers c ≡ layers_among land facts c

-- What a ground lends of what it keeps.

-- the labels of the cells that are open among the facts, just where there is a land
abbrev pub AreRegions : Option Land → List Fact → Option Labels → Type 0
AreRegions None facts regions = IsNone regions
AreRegions (Some land) facts regions = MatchOption regions ⊥ (λ (labels : Labels). AreLabels (field_among land facts) (label_in labels))

-- the layers over the cells of the ground by z, then x; no layer where there is no land
abbrev pub AreLayers : Option Land → List Fact → List ℕ → Type 0
AreLayers None facts layers = layers ≡ []
AreLayers (Some land) facts layers = (length layers ≡ land.width * land.depth) × AreLayersOf land facts layers
