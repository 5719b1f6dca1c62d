-- The ends that a way can have, the best of them, and what the costs tell of the way back from it.
use Rattle.sim_base.specs.{Places.Field, Places.IsStep, Places.octile, Places.step_cost, Ways.IsEnd, Ways.IsTrail, Ways.Walk, Ways.end_key, Ways.is_before}
use Rattle.sim_search.specs.{Floods.IsReached, Moves.step_to, Queues.AreCostsUpTo, Queues.IsSearched}
use Rattle.std.specs.Prelude.{Contains, List, None, Option, Some, false, ℕ, ◌+◌, ◌<◌, ◌≡◌, ◌≤◌, ◌⊎◌}
use Rattle.{sim_base.specs.declared.place.Cell.Cell, sim_path.specs.declared.reached.Reached.Reached, sim_search.specs.Estimates.IsEstimate}

-- The end of a way and the cells back from it, as they are read off the costs.

-- the key of a reached cell
abbrev pub key_to : Cell → Reached → List ℕ
key_to goal r = end_key goal r.cell r.cost

-- a reached cell, and no key of the reached cells that were seen precedes its own
pub record IsBest (cost : Cell → Option ℕ) (goal : Cell) (Seen : Cell → Type 0) (best : Reached) : Type 0 where
  pub reached : cost best.cell ≡ Some best.cost
  pub least : (c : Cell) (d : ℕ) → Seen c → cost c ≡ Some d → is_before (end_key goal c d) (end_key goal best.cell best.cost) ≡ false

-- the cells of the rows before z
abbrev pub IsBeforeRow : ℕ → Cell → Type 0
IsBeforeRow z c = c.z < z

-- the cells of the rows before z, and of row z those before x
abbrev pub IsBeforeCell : ℕ → ℕ → Cell → Type 0
IsBeforeCell z x c = (c.z < z) ⊎ ((c.z ≡ z) × (c.x < x))

-- from the cell p, which costs so much, a step against that direction leads to c, and the two make up what c costs
pub record LeadsBy (field : Field) (start : Cell) (cost : Cell → Option ℕ) (to : Reached) (which : ℕ) (from : Reached) : Type 0 where
  pub leads : step_to field start to.cell which ≡ Some from.cell
  pub reached : cost from.cell ≡ Some from.cost
  pub sum : from.cost + step_cost which ≡ to.cost

-- the first direction before n that leads to a cell, if one does
abbrev pub IsFirstLead : Field → Cell → (Cell → Option ℕ) → Reached → ℕ → Option Reached → Type 0
IsFirstLead field start cost to n None = (j : ℕ) (p : Reached) → j < n → LeadsBy field start cost to j p → ⊥
IsFirstLead field start cost to n (Some from) =
    (which : ℕ) × (which < n) × LeadsBy field start cost to which from × ((j : ℕ) (p : Reached) → j < which → LeadsBy field start cost to j p → ⊥)

-- The costs tell the way back from a cell: with some estimate, the least costs are known up to its cost and estimate.
pub record LeadBack (field : Field) (start : Cell) (cost : Cell → Option ℕ) (end : Reached) : Type 0 where
  pub estimate : Cell → ℕ
  pub falls : IsEstimate (IsStep field start) estimate
  pub bound : ℕ
  pub low : end.cost + estimate end.cell ≤ bound
  pub reached : cost end.cell ≡ Some end.cost
  pub up_to : AreCostsUpTo field start estimate bound cost

-- the end of the way, from which the costs lead back
pub record IsWayEnd (field : Field) (start goal : Cell) (cost : Cell → Option ℕ) (end : Reached) : Type 0 where
  pub is_end : IsEnd field start goal end.cell end.cost
  pub back : LeadBack field start cost end

-- The ends that a search may have: the reached cells that are so near to the goal, where none is nearer. There is one.
pub record AreEnds (field : Field) (start goal : Cell) (near : ℕ) (ends : List Cell) : Type 0 where
  pub away : (c : Cell) (n : ℕ) → Walk (IsStep field start) start c n → near ≤ octile c goal
  pub all : (c : Cell) (n : ℕ) → Walk (IsStep field start) start c n → octile c goal ≡ near → Contains ends c
  pub as_near : (c : Cell) → Contains ends c → octile c goal ≡ near
  pub reached : (c : Cell) → Contains ends c → IsReached field start c
  pub some : (c : Cell) × Contains ends c

-- A search went to the cells that are so near to the goal, by an estimate that is 0 there.
pub record HasGoneTo (field : Field) (start goal : Cell) (near : ℕ) (ends : List Cell) (cost : Cell → Option ℕ) : Type 0 where
  pub estimate : Cell → ℕ
  pub falls : IsEstimate (IsStep field start) estimate
  pub none_left : (c : Cell) → octile c goal ≡ near → estimate c ≡ 0
  pub searched : IsSearched field start estimate ends cost

-- none of the cells has a cost
abbrev pub IsNoneOf : (Cell → Option ℕ) → List Cell → Type 0
IsNoneOf cost cells = (c : Cell) (d : ℕ) → Contains cells c → cost c ≡ Some d → ⊥

-- the best of these cells, if one has a cost
abbrev pub IsBestOf : (Cell → Option ℕ) → Cell → List Cell → Option Reached → Type 0
IsBestOf cost goal cells None = IsNoneOf cost cells
IsBestOf cost goal cells (Some best) = IsBest cost goal (Contains cells) best × Contains cells best.cell

-- the cells back from the end of the way, without the start
pub record IsTrailToEnd (field : Field) (start goal : Cell) (trail : List Cell) : Type 0 where
  pub end : Reached
  pub is_end : IsEnd field start goal end.cell end.cost
  pub is_trail : IsTrail field start end.cell trail
