-- What is kept of a ground, and the ground that it is kept of.
use Rattle.sim_search.specs.{Rows.AreDistances, Rows.number_in, Rows.size_about, declared.distances.Distances.Distances}
use Rattle.std.specs.{List.range_with_len, Prelude.Bool, Prelude.List, Prelude.map, Prelude.ℕ, Prelude.◌*◌, Prelude.◌≡◌}
use Rattle.{sim_base.specs.Places.Field, sim_grid.specs.Grids.OpenCells, sim_grid.specs.Packed.is_set_at, sim_path.specs.declared.kept.KeptCells.KeptCells}

-- the first n cells that words tell of
abbrev pub cells_of : ℕ → List ℕ → List Bool
cells_of n words = map (is_set_at words) (range_with_len 0 n)

-- the ground whose open cells were kept
abbrev pub ground_in : KeptCells → OpenCells
ground_in kept = record {
  size = record { width = kept.width; depth = kept.depth };
  cells = cells_of (kept.width * kept.depth) kept.words.items;
}

-- distances on a ground of this size are those to their goal
pub record AreOn (field : Field) (d : Distances) : Type 0 where
  pub size_is : size_about d ≡ field.size
  pub distances : AreDistances field d.goal (number_in d)
