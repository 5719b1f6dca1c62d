-- What is told of a sight: a line for each player, and the file of explored cells.
use Rattle.sim_vision.specs.{Common.Cell, Common.Setup, Common.cells_of, Common.size_of, Vision.Vision, Vision.part_of, Vision.players_of, Watching.one_if}
use Rattle.std.specs.Prelude.{Bool, codes, count_by, decimal, flat_map, List, map, nat_lt, ℕ, ◌++◌}

-- how many cells a player sees, and how many he has explored
abbrev pub sight_line : ℕ → ℕ → ℕ → List ℕ
sight_line player visible explored =
    codes "sight " ++ (decimal player ++
    (codes " visible " ++ (decimal visible ++
    (codes " explored " ++ (decimal explored ++ codes "\n")))))

-- how many cells of the ground pass a test
abbrev pub cells_where : Setup → (Cell → Bool) → ℕ
cells_where setup test = count_by test (cells_of (size_of setup.land))

-- a line for each player, by which cells he sees and which he has explored
abbrev pub sight_lines : Setup → (ℕ → Cell → Bool) → (ℕ → Cell → Bool) → List ℕ
sight_lines setup visible explored = flat_map (λ player. sight_line player (cells_where setup (visible player)) (cells_where setup (explored player)))
    (players_of setup)

-- how many cells have a row that sees them
abbrev pub visible_in : Vision → ℕ → ℕ
visible_in vision player = count_by (nat_lt 0) (part_of vision.setup player vision.counts)

-- how many cells are explored
abbrev pub explored_in : Vision → ℕ → ℕ
explored_in vision player = count_by (λ explored. explored) (part_of vision.setup player vision.explored)

-- a line for each player, by the lists of a sight
abbrev pub sight_text : Vision → List ℕ
sight_text vision = flat_map (λ player. sight_line player (visible_in vision player) (explored_in vision player)) (players_of vision.setup)

-- one byte for each cell by player, then z, then x: 1 where it is explored, and else 0
abbrev pub explored_file : Vision → List ℕ
explored_file vision = map one_if vision.explored
