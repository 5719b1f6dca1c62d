-- What a player sees: the cells that lie near one of his rows.
use Rattle.sim_vision.specs.Common.{abs_diff, Arms, Cell, cell_of, cells_of, IsArms, list_all, list_any, range_with_len, Row, Setup, size_of, State, Template}
use Rattle.sim_vision.specs.{Common.unit, declared.fault.SightFault.{SightFault, TheVariants.{Length, NotBit, Unseen}}}
use Rattle.std.specs.{List.{flat_map, zip}, Prelude.{Bool, count_by, false, fold, IfSome, if◌then◌else◌, length, List, map, nat_le, nat_lt, None, not, Option}}
use Rattle.std.specs.Prelude.{option_map, replicate, slice_index, slice_range, Some, unsigned_abs, unwrap_or, ℕ, [], ◌&&◌, ◌*◌, ◌+◌, ◌-◌, ◌/◌, ◌==◌, ◌||◌, ◌∷◌}

-- how far entities of a template see: the whole metres of their vision, rounded down, or 0 without an attack
abbrev pub reach_of : Template → ℕ
reach_of template = unwrap_or (option_map (λ (arms : Arms). unsigned_abs arms.vision / unit) template.arms) 0

-- the attack of a template is within its limits, if it has one
abbrev pub HasReach : Template → Type 0
HasReach template = IfSome template.arms IsArms

-- the reaches of all templates, by number
abbrev pub reaches_of : Setup → List ℕ
reaches_of setup = map reach_of setup.templates

-- the sum of the squared cell differences
abbrev pub cell_square : Cell → Cell → ℕ
cell_square a b = abs_diff a.x b.x * abs_diff a.x b.x + abs_diff a.z b.z * abs_diff a.z b.z

-- the cell lies within the reach of the one in the middle: the square of the distance of their corners is at most that of the reach
abbrev pub is_in_disc : ℕ → Cell → Cell → Bool
is_in_disc reach middle c = nat_le (cell_square middle c) (reach * reach)

-- a row of this player sees the cell
abbrev pub sees : Setup → ℕ → Cell → Row → Bool
sees setup player c row = row.owner == player && is_in_disc (slice_index (reaches_of setup) row.template) (cell_of row.at) c

-- how many rows of a player see a cell
abbrev pub count_at : Setup → List Row → ℕ → Cell → ℕ
count_at setup rows player c = count_by (sees setup player c) rows

-- a row of the player sees the cell
abbrev pub is_visible : Setup → List Row → ℕ → Cell → Bool
is_visible setup rows player c = list_any (sees setup player c) rows

-- by z, then x, how many rows of a player see each cell of the ground
abbrev pub counts_of : Setup → List Row → ℕ → List ℕ
counts_of setup rows player = map (count_at setup rows player) (cells_of (size_of setup.land))

-- by z, then x, whether a player sees each cell of the ground
abbrev pub visible_of : Setup → List Row → ℕ → List Bool
visible_of setup rows player = map (is_visible setup rows player) (cells_of (size_of setup.land))

-- the players, ascending
abbrev pub players_of : Setup → List ℕ
players_of setup = range_with_len 1 setup.players

-- by player, then z, then x, how many rows of each player see each cell
abbrev pub all_counts : Setup → List Row → List ℕ
all_counts setup rows = flat_map (counts_of setup rows) (players_of setup)

-- by player, then z, then x, whether each player sees each cell
abbrev pub all_visible : Setup → List Row → List Bool
all_visible setup rows = flat_map (visible_of setup rows) (players_of setup)

-- cell by cell, what was explored or is visible
abbrev pub explored_with : List Bool → List Bool → List Bool
explored_with [] visible = []
explored_with (b ∷ explored) [] = b ∷ explored
explored_with (b ∷ explored) (v ∷ visible) = (b || v) ∷ explored_with explored visible

-- what the players of a match see, and have explored: each list by player, then z, then x
pub record Vision : Type 0 where
  pub setup : Setup
  pub counts : List ℕ
  pub explored : List Bool

-- how many cells the ground of a match has
abbrev pub cells_in : Setup → ℕ
cells_in setup = setup.land.width * setup.land.depth

-- the part of a player in such a list
abbrev pub part_of : {X : Type 0} → Setup → ℕ → List X → List X
part_of setup player xs = slice_range xs ((player - 1) * cells_in setup) (player * cells_in setup)

-- Which explored cells of a file are taken over at a state.

-- the byte is 0 or 1
abbrev pub is_bit : ℕ → Bool
is_bit byte = nat_le byte 1

-- the byte is that of an explored cell
abbrev pub is_set : ℕ → Bool
is_set byte = byte == 1

-- a cell that is visible has the byte 0
abbrev pub is_unseen : Bool × ℕ → Bool
is_unseen cell = cell.0 && cell.1 == 0

-- a cell that is counted has the byte 0
abbrev pub is_missed : ℕ × ℕ → Bool
is_missed cell = nat_lt 0 cell.0 && cell.1 == 0

-- the first cause for which explored cells are refused at a state, if there is one
abbrev pub refusal_of : Setup → List Row → List ℕ → Option SightFault
refusal_of setup rows bytes =
    if not (length bytes == setup.players * cells_in setup) then Some Length
    else (if not (list_all is_bit bytes) then Some NotBit
    else (if list_any is_unseen (zip (all_visible setup rows) bytes) then Some Unseen else None))

-- What a sight is after any list of states, and what the players have explored then.

-- nothing is seen, and nothing explored
abbrev pub blind : Setup → Vision
blind setup = record { setup = setup; counts = replicate (setup.players * cells_in setup) 0; explored = replicate (setup.players * cells_in setup) false }

-- what the rows of a state see, and the explored cells of a file
abbrev pub joined_at : Setup → State → List ℕ → Vision
joined_at setup state bytes = record { setup = setup; counts = all_counts setup state.rows; explored = map is_set bytes }

-- after one more state the counts are those of its rows, and what is visible is explored
abbrev pub vision_next : Vision → State → Vision
vision_next vision state = record {
  setup = vision.setup;
  counts = all_counts vision.setup state.rows;
  explored = explored_with vision.explored (all_visible vision.setup state.rows);
}

-- the same after each of these states
abbrev pub vision_after : Vision → List State → Vision
vision_after vision states = fold vision_next vision states

-- the last of a first state and those behind it
abbrev pub last_of : State → List State → State
last_of first later = fold (λ earlier state. state) first later

-- the cell was visible to the player in one of the states
abbrev pub was_visible : Setup → List State → ℕ → Cell → Bool
was_visible setup states player c = list_any (λ state. is_visible setup state.rows player c) states

-- by player, then z, then x, whether each cell was visible in one of the states
abbrev pub all_seen : Setup → List State → List Bool
all_seen setup states = flat_map (λ player. map (was_visible setup states player) (cells_of (size_of setup.land))) (players_of setup)
