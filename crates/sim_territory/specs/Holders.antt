-- Who holds a cell.
use Rattle.sim_territory.specs.Common.{Cell, IsOnGround, IsSetup, list_all, Mark, neighbour, place_of, range_with_len, row_limit, Setup, Size, size_of}
use Rattle.sim_territory.specs.{Common.Template, declared.{flood.Flood.Flood, sums.Sums.Sums}, Influence.{base_of, influence, share, template_of}}
use Rattle.{sim_territory.specs.Tables.{IsMarkIn, IsPlaceIn, size_in, sum_at}, std.specs.{declared.alloc.Global.Global, Prelude.{All, Bool, Contains}}}
use Rattle.std.specs.Prelude.{count_by, false, filter, find, is_some, IsTrue, length, List, map, nat_le, nat_lt, not, option_and_then, slice_index}
use Rattle.std.specs.Prelude.{slice_index_or, Some, true, unwrap_or, Vec, vec_len, ℕ, [], ◌&&◌, ◌*◌, ◌++◌, ◌+◌, ◌<◌, ◌==◌, ◌↔◌, ◌∷◌, ◌≡◌, ◌≢◌, ◌≤◌, ◌⊎◌}

-- a player has influence, and nobody has more
abbrev pub has_most : ℕ → (ℕ → ℕ) → ℕ → Bool
has_most players influences player = nat_lt 0 (influences player) && list_all (λ other. nat_le (influences other) (influences player))
    (range_with_len 1 players)

-- the least player who has influence while nobody has more, or 0
abbrev pub holder_by : ℕ → (ℕ → ℕ) → ℕ
holder_by players influences = unwrap_or (find (has_most players influences) (range_with_len 1 players)) 0

-- the player who holds a cell, or 0
abbrev pub holder : Setup → List Mark → Cell → ℕ
holder setup marks c = holder_by setup.players (λ player. influence setup marks player c)

-- the number is 0 and no player has influence
pub record IsNobody (players : ℕ) (influences : ℕ → ℕ) (number : ℕ) : Type 0 where
  pub none : number ≡ 0
  pub all : (player : ℕ) → 1 ≤ player → player ≤ players → influences player ≡ 0

-- the number is a player's who has influence, the greatest, and more than those before him
pub record IsFirstGreatest (players : ℕ) (influences : ℕ → ℕ) (number : ℕ) : Type 0 where
  pub least : 1 ≤ number
  pub most : number ≤ players
  pub some : 0 < influences number
  pub greatest : (player : ℕ) → 1 ≤ player → player ≤ players → influences player ≤ influences number
  pub first : (player : ℕ) → 1 ≤ player → player < number → influences player < influences number

-- the number is that of the holder
abbrev pub IsHolder : ℕ → (ℕ → ℕ) → ℕ → Type 0
IsHolder players influences number = IsNobody players influences number ⊎ IsFirstGreatest players influences number

-- Which cells are joined to a root of the player who holds them.

-- a ground, and who holds each of its cells
pub record HeldGround : Type 0 where
  pub size : Size
  pub holder : Cell → ℕ

-- a step to the east, north, west or south between cells that one player holds
pub record IsHeldStep (ground : HeldGround) (a b : Cell) : Type 0 where
  pub which : ℕ
  pub straight : which < 4
  pub leads : neighbour ground.size a which ≡ Some b
  pub same : ground.holder b ≡ ground.holder a

-- such steps lead to the cell from one of the first cells
pub data IsReachedFrom (ground : HeldGround) (IsFirst : Cell → Type 0) : Cell → Type 0 where
  first : {c : Cell} → IsFirst c → IsReachedFrom ground IsFirst c
  on : {b c : Cell} → IsReachedFrom ground IsFirst b → IsHeldStep ground b c → IsReachedFrom ground IsFirst c

-- an entity can train
abbrev pub trains : Setup → Mark → Bool
trains setup mark = is_some (option_and_then (λ (t : Template). t.train) (template_of setup mark))

-- an entity is a root where this player holds its cell: an obstruction of his that can train
abbrev pub is_root_under : Setup → ℕ → Mark → Bool
is_root_under setup player mark = is_some (base_of setup mark) && trains setup mark && nat_lt 0 mark.owner && player == mark.owner

-- an entity is a root
abbrev pub is_root : Setup → List Mark → Mark → Bool
is_root setup marks mark = is_root_under setup (holder setup marks mark.cell) mark

-- the cells of the roots among some of the entities
abbrev pub roots_among : Setup → List Mark → List Mark → List Cell
roots_among setup marks some = map (λ (mark : Mark). mark.cell) (filter (is_root setup marks) some)

-- the cells of the roots
abbrev pub roots_of : Setup → List Mark → List Cell
roots_of setup marks = roots_among setup marks marks

-- who holds the ground of a match
abbrev pub held_ground : Setup → List Mark → HeldGround
held_ground setup marks = record { size = size_of setup.land; holder = holder setup marks }

-- cells that one player holds lead to the cell from a root of his
abbrev pub IsRooted : Setup → List Mark → Cell → Type 0
IsRooted setup marks = IsReachedFrom (held_ground setup marks) (Contains (roots_of setup marks))

-- what a list by z, then x, says of a cell
abbrev pub flag_at : Size → List Bool → Cell → Bool
flag_at size flags c = slice_index_or flags (place_of size c) false

-- for each cell of the ground by z, then x, whether it is rooted
pub record AreRooted (setup : Setup) (marks : List Mark) (flags : List Bool) : Type 0 where
  pub full : length flags ≡ setup.land.width * setup.land.depth
  pub each : (c : Cell) → IsOnGround (size_of setup.land) c → IsTrue (flag_at (size_of setup.land) flags c) ↔ IsRooted setup marks c

-- What a realm keeps of its marks.

-- who holds a cell, in a list by z, then x
abbrev pub holder_at : Size → List ℕ → Cell → ℕ
holder_at size holders c = slice_index holders (place_of size c)

-- the holders, by z, then x, that the influences of a table make
pub record AreHolders (sums : Sums) (holders : List ℕ) : Type 0 where
  pub full : length holders ≡ sums.width * sums.depth
  pub each : (c : Cell) → IsOnGround (size_in sums) c → holder_at (size_in sums) holders c ≡ holder_by sums.players (λ player. sum_at sums player c)

-- a table has the influences of these marks, which are few and of its ground
pub record AreInfluences (setup : Setup) (marks : List Mark) (sums : Sums) : Type 0 where
  pub limits : IsSetup setup
  pub size : size_in sums ≡ size_of setup.land
  pub players : sums.players ≡ setup.players
  pub few : length marks ≤ row_limit
  pub within : All (IsMarkIn sums) marks
  pub each : (player : ℕ) (c : Cell) → IsPlaceIn sums player c → sum_at sums player c ≡ influence setup marks player c

-- Holders that are found anew in some of the cells.

-- a cell lies within columns and rows, each from the first to before the end
pub record IsInBlock (columns rows : ℕ × ℕ) (c : Cell) : Type 0 where
  pub west : columns.0 ≤ c.x
  pub east : c.x < columns.1
  pub south : rows.0 ≤ c.z
  pub north : c.z < rows.1

-- a list has the holder that the influences of a table make at a cell
abbrev pub IsHeldRight : Sums → List ℕ → Cell → Type 0
IsHeldRight sums holders c = holder_at (size_in sums) holders c ≡ holder_by sums.players (λ player. sum_at sums player c)

-- a cell has its holder, or it had that one before and is none of some
abbrev pub IsFoundOr : Sums → List ℕ → List ℕ → Cell → Type 0 → Type 0
IsFoundOr sums old new c apart = IsHeldRight sums new c ⊎ ((holder_at (size_in sums) new c ≡ holder_at (size_in sums) old c) × apart)

-- a list is as long as the ground has cells, and columns and rows, each from the first to before the end, are of the ground
pub record IsBlockOf (sums : Sums) (holders : Vec ℕ Global) (columns rows : ℕ × ℕ) : Type 0 where
  pub full : vec_len holders ≡ sums.width * sums.depth
  pub west : columns.0 ≤ columns.1
  pub east : columns.1 ≤ sums.width
  pub south : rows.0 ≤ rows.1
  pub north : rows.1 ≤ sums.depth

-- within the columns and the rows each cell has its holder, and the others have the one of before
pub record AreFound (sums : Sums) (columns rows : ℕ × ℕ) (old new : List ℕ) : Type 0 where
  pub full : length new ≡ length old
  pub each : (c : Cell) → IsOnGround (size_in sums) c → IsFoundOr sums old new c (IsInBlock columns rows c → ⊥)

-- an entity gives nothing at a cell
abbrev pub GivesNoneAt : Setup → Mark → Cell → Type 0
GivesNoneAt setup mark c = (player : ℕ) → 1 ≤ player → share setup player c mark ≡ 0

-- where an entity gives something each cell has its holder, and the others have it or the one of before
pub record AreFoundNear (setup : Setup) (mark : Mark) (sums : Sums) (old new : List ℕ) : Type 0 where
  pub full : length new ≡ length old
  pub each : (c : Cell) → IsOnGround (size_in sums) c → IsFoundOr sums old new c (GivesNoneAt setup mark c)

-- A flood over the ground of each holder.

-- the ground of a flood
abbrev pub ground_size : Flood → Size
ground_size flood = record { width = flood.width; depth = flood.depth }

-- the flood has come to a cell
abbrev pub IsWet : Flood → Cell → Type 0
IsWet flood c = flag_at (ground_size flood) flood.flags.items c ≡ true

-- the cell waits for its neighbours to be looked at
abbrev pub Waits : Flood → Cell → Type 0
Waits flood c = Contains flood.waiting.items c

-- the ground of a flood, where a list by z, then x, tells who holds each cell
abbrev pub ground_of : Flood → List ℕ → HeldGround
ground_of flood holders = record { size = ground_size flood; holder = holder_at (ground_size flood) holders }

-- how much is left to do at most: the cells that wait, and two for each to which the flood has not come
abbrev pub work_left : Flood → ℕ
work_left flood = 2 * count_by not flood.flags.items + length flood.waiting.items

-- the cell was wet, and nothing changed
pub record IsPassed (old new : Flood) (cell : Cell) : Type 0 where
  pub was : IsWet old cell
  pub same : new ≡ old

-- the cell is wet now, no other cell changed, and it waits
pub record IsWetted (old new : Flood) (cell : Cell) : Type 0 where
  pub size : ground_size new ≡ ground_size old
  pub here : IsWet new cell
  pub elsewhere : (c : Cell) → IsOnGround (ground_size old) c → c ≢ cell → flag_at (ground_size old) new.flags.items c ≡ flag_at (ground_size old)
      old.flags.items c
  pub waits : new.waiting.items ≡ old.waiting.items ++ cell ∷ []
  pub less : work_left new + 1 ≡ work_left old

-- the cell is wet, and no other changed
abbrev pub Wets : Flood → Flood → Cell → Type 0
Wets old new cell = IsPassed old new cell ⊎ IsWetted old new cell

-- a list tells who holds each cell of the ground, on which this cell is
pub record IsHeldCell (flood : Flood) (holders : List ℕ) (cell : Cell) : Type 0 where
  pub full : length holders ≡ flood.width * flood.depth
  pub from : IsOnGround (ground_size flood) cell

-- no step in that direction leads to a cell of the same holder, and nothing changed
pub record IsStayed (ground : HeldGround) (old new : Flood) (from : Cell) (which : ℕ) : Type 0 where
  pub none : (e : Cell) → neighbour ground.size from which ≡ Some e → ground.holder e ≢ ground.holder from
  pub same : new ≡ old

-- the step in that direction leads to a cell of the same holder, which is wet
pub record IsStepped (ground : HeldGround) (old new : Flood) (from : Cell) (which : ℕ) : Type 0 where
  pub to : Cell
  pub leads : neighbour ground.size from which ≡ Some to
  pub same : ground.holder to ≡ ground.holder from
  pub wets : Wets old new to

-- where the step in that direction leads to a cell of the same holder, that is wet
abbrev pub StepsOn : HeldGround → Flood → Flood → Cell → ℕ → Type 0
StepsOn ground old new from which = IsStayed ground old new from which ⊎ IsStepped ground old new from which

-- The held steps from a cell in the directions before one lead to wet cells; whatever came to be wet is such a cell, and waits.
pub record Spreads (ground : HeldGround) (old new : Flood) (from : Cell) (directions : ℕ) : Type 0 where
  pub size : ground_size new ≡ ground_size old
  pub less : work_left new ≤ work_left old
  pub keeps : (c : Cell) → IsOnGround ground.size c → IsWet old c → IsWet new c
  pub still : (c : Cell) → Waits old c → Waits new c
  pub comes : (c : Cell) → IsOnGround ground.size c → IsWet new c → IsWet old c ⊎ (Waits new c × IsHeldStep ground from c)
  pub waits : (c : Cell) → Waits new c → Waits old c ⊎ (IsOnGround ground.size c × IsWet new c)
  pub all : (e : Cell) → (step : IsHeldStep ground from e) → step.which < directions → IsWet new e

-- the cells that wait are just the wet ones
pub record AllWait (flood : Flood) : Type 0 where
  pub on : (c : Cell) → Waits flood c → IsOnGround (ground_size flood) c
  pub wet : (c : Cell) → Waits flood c → IsWet flood c
  pub waits : (c : Cell) → IsOnGround (ground_size flood) c → IsWet flood c → Waits flood c

-- the wet cells are just those that are reached from the ones that waited before
pub record Fills (ground : HeldGround) (old new : Flood) : Type 0 where
  pub size : ground_size new ≡ ground_size old
  pub sound : (c : Cell) → IsOnGround ground.size c → IsWet new c → IsReachedFrom ground (Waits old) c
  pub all : (c : Cell) → IsReachedFrom ground (Waits old) c → IsWet new c

-- these cells wait and no others, and just the cells that wait are wet
pub record IsWetAt (cells : List Cell) (flood : Flood) : Type 0 where
  pub wait : AllWait flood
  pub sound : (c : Cell) → Waits flood c → Contains cells c
  pub all : (c : Cell) → Contains cells c → Waits flood c
