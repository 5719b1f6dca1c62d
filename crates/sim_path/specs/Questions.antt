-- What is asked, and what answers it.
use Rattle.sim_base.specs.{declared.place.{Cell.Cell, Point.Point}, Limits.waypoint_limit}
use Rattle.sim_base.specs.{Places.{cell_of, Field, is_free, is_inside, IsOnGround, IsStep, octile, same_cell, Size, step_cost}, Ways.{IsCost, IsTrail}}
use Rattle.sim_grid.specs.Grids.{field_of_grid, is_open_at, IsSpot, OpenCells}
use Rattle.sim_path.specs.declared.{front.Front.Front, marks.Marks.Marks, question.Question.Question, reached.Reached.Reached, remembered.KeptWay.KeptWay}
use Rattle.sim_path.specs.{declared.{slope.Slope.Slope, stand.Stand.Stand, step_back.StepBack.StepBack}, WayEnds.{AreEnds, IsTrailToEnd}}
use Rattle.sim_search.specs.{declared.distances.Distances.Distances, Estimates.estimate_to, Moves.{AreMoves, step_to}, Queues.{cost_in, entry_at, HasCost}}
use Rattle.{sim_search.specs.Rows.{AreDistances, number_in, size_about}, std.specs.{Int.abs_diff, Prelude.{Bool, Contains, drop, false, IsTrue, length, List}}}
use Rattle.std.specs.Prelude.{map, max, min, nat_eq, nat_le, None, not, Option, reverse, Some, take, true, ℕ, ◌*◌, ◌+◌, ◌-◌, ◌<◌, ◌≡◌, ◌≢◌, ◌≤◌, ◌⊎◌}

-- Marks by cells.

abbrev pub size_of_marks : Marks → Size
size_of_marks m = record { width = m.width; depth = m.depth }

-- which cells are marked: those that have the last stamp
abbrev pub marks_of : Marks → List Bool
marks_of m = map (λ (t : ℕ). nat_eq t m.stamp) m.items.items

-- whether a cell is marked
abbrev pub marked_in : Marks → Cell → Bool
marked_in m c = entry_at false (size_of_marks m) (marks_of m) c

-- one more cell is marked
pub record IsMarkedToo (old new : Marks) (cell : Cell) : Type 0 where
  pub size : size_of_marks new ≡ size_of_marks old
  pub here : marked_in new cell ≡ true
  pub elsewhere : (c : Cell) → c ≢ cell → marked_in new c ≡ marked_in old c

-- no cell of the ground is marked
pub record IsNoneMarked (size : Size) (m : Marks) : Type 0 where
  pub size_is : size_of_marks m ≡ size
  pub none : (c : Cell) → marked_in m c ≡ false

-- What is remembered of a way, and on which ground it is one.

-- the cells are the first of a way from the start on, as many as an answer has, and it is said whether these are all
pub record AreFirst (field : Field) (start goal : Cell) (cells : List Cell) (whole : Bool) : Type 0 where
  pub trail : List Cell
  pub is_trail : IsTrailToEnd field start goal trail
  pub first : cells ≡ take waypoint_limit (reverse trail)
  pub all : whole ≡ nat_le (length (reverse trail)) waypoint_limit

-- what is kept of a way is so on this ground
pub record IsRight (g : OpenCells) (cells : List Cell) (kept : KeptWay) : Type 0 where
  pub order : kept.begin ≤ kept.end
  pub within : kept.end ≤ length cells
  pub right : AreFirst (field_of_grid g) kept.from kept.to (take (kept.end - kept.begin) (drop kept.begin cells)) kept.whole

-- the ground over which a way is asked
abbrev pub field_in : Question → Field
field_in question = field_of_grid question.grid.now

-- the ground over which a step leads back
abbrev pub field_behind : StepBack → Field
field_behind back = field_in back.question.now

-- the cells in which the way can end are those of the question
abbrev pub HasItsEnds : Question → Type 0
HasItsEnds question = AreEnds (field_in question) question.start question.goal question.near question.ends.now

-- the cells back from the end of the way that is asked, without the start
abbrev pub IsItsTrail : Question → List Cell → Type 0
IsItsTrail question trail = IsTrailToEnd (field_in question) question.start question.goal trail

-- these cells are the first of the way that is asked
abbrev pub IsKnown : Question → List Cell → Bool → Type 0
IsKnown question cells whole = ∥ AreFirst (field_in question) question.start question.goal cells whole ∥₁

-- a way is asked between points that lie on the ground
pub record IsAsked (grid : OpenCells) (start goal : Point) : Type 0 where
  pub start_in : IsTrue (is_inside grid.size start)
  pub goal_in : IsTrue (is_inside grid.size goal)

-- the way is asked between these points of the ground, which lie in different cells
pub record IsBetween (question : Question) (start goal : Point) : Type 0 where
  pub asked : IsAsked question.grid.now start goal
  pub apart : same_cell (cell_of start) (cell_of goal) ≡ false
  pub from : question.start ≡ cell_of start
  pub to : question.goal ≡ cell_of goal

-- a way from an open cell is asked that can end in the goal alone
pub record IsToTheGoal (question : Question) : Type 0 where
  pub ends : HasItsEnds question
  pub nearest : question.near ≡ 0
  pub is_open : is_open_at question.grid.now question.start ≡ true

-- A walk may go back from an end of the way, over a floor of which this is known on the ground.
pub record MayGoBack {F : Type 0} (holds : Field → Cell → F → Type 0) (question : Question) (floor : F) : Type 0 where
  pub floor_holds : holds (field_in question) question.start floor
  pub ends : HasItsEnds question

-- A floor tells from where a walk may come to a cell that it has come to: it holds on the ground, and the cell is a free one.
pub record MayDescend {F : Type 0} (holds : Field → Cell → F → Type 0) (question : Question) (floor : F) (at : Cell) : Type 0 where
  pub at_on : IsOnGround question.grid.now.size at
  pub free : is_free (field_in question) question.start at ≡ true
  pub floor_holds : holds (field_in question) question.start floor

-- Where a walk stands.

-- the cell is one of the ground's and knows its place, these are the steps from it, and this is its cost
pub record IsStand (field : Field) (start : Cell) (cost : Cell → ℕ) (at : Stand) : Type 0 where
  pub spot : IsSpot field.size at.spot
  pub moves : AreMoves field start at.spot.cell at.moves
  pub cost_is : at.cost ≡ cost at.spot.cell

-- the cell is one of the ground's, and so are those of which the distances tell
pub record IsToldOf (ground : Size) (distances : Distances) (cell : Cell) : Type 0 where
  pub cell_on : IsOnGround ground cell
  pub size : size_about distances ≡ ground

-- a walk stands on the ground of which the distances tell, at such a cost, and looks in one of the directions
pub record LooksAbout (question : Question) (distances : Distances) (cost : Cell → ℕ) (at : Stand) (which : ℕ) : Type 0 where
  pub which_in : which < 8
  pub stands : IsStand (field_in question) question.start cost at
  pub size : size_about distances ≡ question.grid.now.size

-- Cells of the shortest ways to a goal, as the distances of the cells tell them.

-- a step in that direction leads to b, and twice the number falls by what it costs
pub record IsFall (field : Field) (start : Cell) (number : Cell → ℕ) (a b : Cell) (which : ℕ) : Type 0 where
  pub leads : step_to field start a which ≡ Some b
  pub sum : 2 * number b + step_cost which ≡ 2 * number a

-- twice the number of a cell
abbrev pub twice : (Cell → ℕ) → Cell → ℕ
twice number c = 2 * number c

-- such steps in the directions before n lead to marked cells
abbrev pub FallsBefore : Field → Cell → (Cell → ℕ) → (Cell → Bool) → ℕ → Cell → Type 0
FallsBefore field start number marked n a = (which : ℕ) (b : Cell) → which < n → IsFall field start number a b which → marked b ≡ true

-- the start is live, and so is each cell to which such a step leads from a live one
pub record AreLive (field : Field) (start : Cell) (number : Cell → ℕ) (live : Cell → Bool) : Type 0 where
  pub begins : live start ≡ true
  pub onwards : (a : Cell) → live a ≡ true → FallsBefore field start number live 8 a

-- some cells are marked too, and these are listed
pub record IsSpread (size : Size) (old new : Marks) (list longer : List Cell) : Type 0 where
  pub size_is : size_of_marks new ≡ size
  pub kept : (c : Cell) → marked_in old c ≡ true → marked_in new c ≡ true
  pub listed : (c : Cell) → marked_in new c ≡ true → (marked_in old c ≡ true) ⊎ Contains longer c
  pub stays : (c : Cell) → Contains list c → Contains longer c
  pub on : (c : Cell) → Contains longer c → IsOnGround size c

-- and those to which steps fall from a cell, in the directions before n, are among them
pub record IsSpreadFrom (field : Field) (start : Cell) (number : Cell → ℕ) (old new : Marks) (list longer : List Cell) (n : ℕ) (cell : Cell) : Type 0 where
  pub spread : IsSpread field.size old new list longer
  pub falls : FallsBefore field start number (marked_in new) n cell

-- from each marked cell that is not listed such steps lead to marked ones
pub record AreLiveBut (field : Field) (start : Cell) (number : Cell → ℕ) (marks : Marks) (list : List Cell) : Type 0 where
  pub size_is : size_of_marks marks ≡ field.size
  pub begins : marked_in marks start ≡ true
  pub onwards : (a : Cell) → marked_in marks a ≡ true → Contains list a ⊎ FallsBefore field start number (marked_in marks) 8 a
  pub on : (c : Cell) → Contains list c → IsOnGround field.size c

-- a cell that is not marked as live
abbrev pub is_dead : Marks → Cell → Bool
is_dead live c = not (marked_in live c)

-- Walks that cost as little as a floor has it.

-- the least cost of a walk to the cell is the floor
abbrev pub IsTight : Field → Cell → (Cell → ℕ) → Cell → Type 0
IsTight field start floor c = IsCost field start c (floor c)

-- a step against that direction leads from p to the cell, and costs as much as it adds to the floor
pub record IsTightStep (field : Field) (start : Cell) (floor : Cell → ℕ) (at p : Cell) (which : ℕ) : Type 0 where
  pub leads : step_to field start at which ≡ Some p
  pub sum : floor p + step_cost which ≡ floor at

-- a step against that direction leads from p to the cell, and the octile distance of p leaves as much of the cost as it takes
pub record IsNearStep (field : Field) (start : Cell) (at : Reached) (p : Cell) (which : ℕ) : Type 0 where
  pub leads : step_to field start at.cell which ≡ Some p
  pub far : octile p start + step_cost which ≤ at.cost

-- no walk that costs as little as the floor leads to these cells
abbrev pub AreDead : Field → Cell → (Cell → ℕ) → (Cell → Bool) → Type 0
AreDead field start floor dead = (c : Cell) → dead c ≡ true → IsTight field start floor c → ⊥

-- the first direction before n with a tight step from a cell that is not dead, if there is one; a cell that isn't tight may be passed over
abbrev pub IsFirstTight : Field → Cell → (Cell → ℕ) → (Cell → Bool) → Cell → ℕ → Option Cell → Type 0
IsFirstTight field start floor dead at n None =
    (j : ℕ) (p : Cell) → j < n → IsTightStep field start floor at p j → IsTight field start floor p → dead p ≡ true
IsFirstTight field start floor dead at n (Some from) =
    (which : ℕ) × (which < n) × IsTightStep field start floor at from which × ((j : ℕ) (p : Cell) → j < which → IsTightStep field start floor at p j
    → IsTight field start floor p → dead p ≡ true)

-- the trail back from a cell to which a walk leads that costs as little as the floor
pub record IsTightTrail (field : Field) (start : Cell) (floor : Cell → ℕ) (end : Cell) (trail : List Cell) : Type 0 where
  pub tight : IsTight field start floor end
  pub is_trail : IsTrail field start end trail

-- what a walk to the cell costs where it costs as little as the floor
abbrev pub floor_cost : (Cell → ℕ) → Cell → Option ℕ
floor_cost floor c = Some (floor c)

-- the octile distance from the start
abbrev pub octile_from : Cell → Cell → ℕ
octile_from start c = octile c start

-- the direction goes straight back towards the start, along the longer side
abbrev pub LeadsAlong : Cell → Cell → ℕ → Type 0
LeadsAlong at start which =
    let x = abs_diff at.x start.x in
    let z = abs_diff at.z start.z in
    ((which ≡ 0) × (z < x) × (at.x < start.x)) ⊎ ((which ≡ 1) × (x < z) × (at.z < start.z)) ⊎ ((which ≡ 2) × (z < x) × (start.x < at.x))
    ⊎ ((which ≡ 3) × (x < z) × (start.z < at.z))

-- the direction goes diagonally back towards the start
abbrev pub LeadsAcross : Cell → Cell → ℕ → Type 0
LeadsAcross at start which =
    ((which ≡ 4) × (at.x < start.x) × (at.z < start.z)) ⊎ ((which ≡ 5) × (start.x < at.x) × (at.z < start.z))
    ⊎ ((which ≡ 6) × (start.x < at.x) × (start.z < at.z)) ⊎ ((which ≡ 7) × (at.x < start.x) × (start.z < at.z))

-- the straight direction back towards the start, if one side is longer
pub record IsAlong (at start : Cell) (along : Option ℕ) : Type 0 where
  pub leads : (which : ℕ) → along ≡ Some which → LeadsAlong at start which
  pub all : (which : ℕ) → LeadsAlong at start which → along ≡ Some which

-- the diagonal direction back towards the start, if there is one
pub record IsAcross (at start : Cell) (across : Option ℕ) : Type 0 where
  pub leads : (which : ℕ) → across ≡ Some which → LeadsAcross at start which
  pub all : (which : ℕ) → LeadsAcross at start which → across ≡ Some which

-- there is a direction, and a tight step in it
pub record HasTightStep (field : Field) (start at p : Cell) (which : Option ℕ) : Type 0 where
  pub direction : ℕ
  pub is : which ≡ Some direction
  pub step : IsTightStep field start (octile_from start) at p direction

-- each step in the direction, if there is one, is tight
abbrev pub IsTightWay : Field → Cell → Cell → Option ℕ → Type 0
IsTightWay field start at which = (direction : ℕ) (p : Cell) → which ≡ Some direction → step_to field start at direction ≡ Some p
    → octile p start + step_cost direction ≡ octile at start

-- What no walk costs less than.

-- a floor is nothing at the start, and rises along a step by at most what the step costs, so no walk costs less
pub record IsFloor (field : Field) (start : Cell) (floor : Cell → ℕ) : Type 0 where
  pub begins : floor start ≡ 0
  pub rises : (a b : Cell) (k : ℕ) → IsStep field start a b k → floor b ≤ floor a + k

-- What walks from a start cost at least, by what a search knows.

-- the cost that is known, or the bound where that is less
abbrev pub known_or : Option ℕ → ℕ → ℕ
known_or None bound = bound
known_or (Some cost) bound = min cost bound

-- what is left of the key of a search for a cell
abbrev pub left_of : Front → Cell → ℕ
left_of front c = front.key - estimate_to front.aim c

-- what a walk from the start to a cell costs at least: its cost, or the octile distance and what is left of the key for a cell that the search hasn't taken
abbrev pub floor_of : Front → Cell → Cell → ℕ
floor_of front start c = known_or (cost_in front.costs.now c) (max (octile c start) (left_of front c))

-- What a search knows that has come to a key: no walk costs less than its floor, and the steps from the cells of lower keys are reckoned with.
pub record IsFront (field : Field) (start : Cell) (front : Front) : Type 0 where
  pub floor : IsFloor field start (floor_of front start)
  pub far : (c : Cell) (d : ℕ) → cost_in front.costs.now c ≡ Some d → octile c start ≤ d
  pub reckoned : (a b : Cell) (k d : ℕ) → cost_in front.costs.now a ≡ Some d → d + estimate_to front.aim a < front.key → IsStep field start a b k
      → HasCost (cost_in front.costs.now) b (d + k)

-- a cell has no cost yet, and what is left of the key for it is its floor; it is no nearer to the goal than the ends are
pub record IsUnknown (front : Front) (start c : Cell) : Type 0 where
  pub none : cost_in front.costs.now c ≡ None
  pub far : octile c start ≤ left_of front c
  pub beyond : front.aim.near ≤ octile c front.aim.goal

-- what a walk to a cell costs at least: what a way to the goal leaves for it
abbrev pub slope_of : Slope → Cell → ℕ
slope_of s c = s.whole - 2 * number_in s.distances.now c

-- the same, whatever the start
abbrev pub slope_from : Slope → Cell → Cell → ℕ
slope_from s start = slope_of s

-- the distances are those to some goal on a ground of this size, and from an open start it takes as much as is told
pub record IsSlope (field : Field) (start : Cell) (s : Slope) : Type 0 where
  pub goal : Cell
  pub size_is : size_about s.distances.now ≡ field.size
  pub is_open : field.is_open start ≡ true
  pub distances : AreDistances field goal (number_in s.distances.now)
  pub whole : s.whole ≡ 2 * number_in s.distances.now start
