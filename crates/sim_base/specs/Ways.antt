-- The way from a point to another over a ground.
use Rattle.sim_base.specs.{declared.place.{Cell.Cell, Point.Point}, Limits.waypoint_limit, Places.{beside_open, cell_of, cells_of, centre_of, entry, Field}}
use Rattle.sim_base.specs.Places.{is_free, is_straight, IsStep, neighbour, octile, same_cell, same_table, Size, step_cost, Table, table_of}
use Rattle.std.specs.{Cmp.Lexicographic.slice_cmp, List.range_with_len, Option.option_eq, Ordering.{is_lt, nat_cmp}}
use Rattle.std.specs.Prelude.{Bool, false, filter_map, find, fold, if◌then◌else◌, length, List, map, MatchBool, nat_eq, nat_le, None, Option, option_and_then}
use Rattle.std.specs.Prelude.{option_map, reverse, Some, suc, take, true, zero, ℕ, [], ◌*◌, ◌+◌, ◌-◌, ◌<◌, ◌||◌, ◌∷◌, ◌≡◌, ◌≢◌, ◌≤◌}

-- Walks by any relation of steps, each with a cost, and the least cost of a walk.

-- a walk from the start, to where it comes and what it costs: it stays at the start, or goes one step on from where a walk has come
pub data Walk {X : Type 0} (Step : X → X → ℕ → Type 0) (start : X) : X → ℕ → Type 0 where
  stay : Walk Step start start 0
  go : {a b : X} {n k : ℕ} → Walk Step start a n → Step a b k → Walk Step start b (n + k)

-- d is the least cost of a walk to c
pub record IsLeastCost {X : Type 0} (Step : X → X → ℕ → Type 0) (start c : X) (d : ℕ) : Type 0 where
  pub walk : Walk Step start c d
  pub least : (n : ℕ) → Walk Step start c n → d ≤ n

-- The least member of a list by a key of several numbers.

-- the first key is less: at the first place where the two differ
abbrev pub is_before : List ℕ → List ℕ → Bool
is_before x y = is_lt (slice_cmp nat_cmp x y)

-- the new member where its key is less, and else the best so far
abbrev pub lesser_of : {X : Type 0} → (X → List ℕ) → Option X → X → X
lesser_of key None x = x
lesser_of key (Some best) x = if is_before (key x) (key best) then x else best

-- the first member whose key is least, if there is any member
abbrev pub least_of : {X : Type 0} → (X → List ℕ) → List X → Option X
least_of key xs = fold (λ best x. Some (lesser_of key best x)) None xs

-- the least cost of a walk from the start to c
abbrev pub IsCost : Field → Cell → Cell → ℕ → Type 0
IsCost field start c d = IsLeastCost (IsStep field start) start c d

-- the key of a reached cell: its distance to the goal, its cost, z and x
abbrev pub end_key : Cell → Cell → ℕ → List ℕ
end_key goal c d = octile c goal ∷ d ∷ c.z ∷ c.x ∷ []

-- e is the reached cell whose key is least, and d is its cost
pub record IsEnd (field : Field) (start goal e : Cell) (d : ℕ) : Type 0 where
  pub reached : IsCost field start e d
  pub least : (c : Cell) (n : ℕ) → IsCost field start c n → is_before (end_key goal c n) (end_key goal e d) ≡ false

-- p is reached, and its cost and that of a step from it to c make up d
pub record LeadsTo (field : Field) (start p c : Cell) (d : ℕ) : Type 0 where
  pub before : ℕ
  pub last : ℕ
  pub reached : IsCost field start p before
  pub step : IsStep field start p c last
  pub sum : before + last ≡ d

-- p is the first neighbour of c that leads to it
pub record IsPredecessor (field : Field) (start p c : Cell) (d : ℕ) : Type 0 where
  pub which : ℕ
  pub neighbour_is : neighbour field.size c which ≡ Some p
  pub leads : LeadsTo field start p c d
  pub first : (j : ℕ) (q : Cell) → j < which → neighbour field.size c j ≡ Some q → LeadsTo field start q c d → ⊥

-- the cells are those from c back to the start, each the predecessor of the one before, without the start
abbrev pub IsTrail : Field → Cell → Cell → List Cell → Type 0
IsTrail field start c [] = c ≡ start
IsTrail field start c (x ∷ cells) = (x ≡ c) × (c ≢ start) × (d : ℕ) × IsCost field start c d × (p : Cell) × IsPredecessor field start p c d
    × IsTrail field start p cells

-- the centres of the cells, but for the goal's cell the goal itself
abbrev pub waypoints : Point → List Cell → List Point
waypoints goal cells = map (λ (c : Cell). if same_cell c (cell_of goal) then goal else centre_of c) cells

-- the points of a way, and whether they lead to its end
pub record Way : Type 0 where
  pub points : List Point
  pub whole : Bool

-- the first points are kept, as many as a way may have
abbrev pub first_points : List Point → Way
first_points points = record { points = take waypoint_limit points; whole = nat_le (length points) waypoint_limit }

-- the way has the points of the trail from the end, in the order from the start
pub record IsFound (field : Field) (from goal : Point) (way : Way) : Type 0 where
  pub last : Cell
  pub cost : ℕ
  pub trail : List Cell
  pub is_end : IsEnd field (cell_of from) (cell_of goal) last cost
  pub is_trail : IsTrail field (cell_of from) last trail
  pub way_is : way ≡ first_points (waypoints goal (reverse trail))

-- the way from a point to another: where both lie in one cell, the goal alone
abbrev pub IsWay : Field → Point → Point → Way → Type 0
IsWay field from goal way =
    MatchBool (same_cell (cell_of from) (cell_of goal))
    (way ≡ record { points = goal ∷ []; whole = true })
    (IsFound field from goal way)

-- The least costs of walks from a start to all cells, found round by round: first of walks with no step, then of walks
-- with one step more, until a round changes nothing.

-- a step into a cell: the cell that it comes from, and what it costs
pub record Source : Type 0 where
  pub cell : Cell
  pub cost : ℕ

-- the step into c from its neighbour in that direction, if there is one
abbrev pub step_from : Size → (Cell → Bool) → Cell → ℕ → Option Source
step_from size free c which =
    option_and_then (λ p. if is_straight which || beside_open free p c then Some (record { cell = p; cost = step_cost which }) else None)
    (neighbour size c which)

-- the steps into c, in the order of the directions, where the test says which cells are free
abbrev pub steps_into : Size → (Cell → Bool) → Cell → List Source
steps_into size free c = if free c then filter_map (step_from size free c) (range_with_len 0 8) else []

-- the steps into each cell, where the table says which cells are free
abbrev pub steps_by : Size → Table Bool → Table (List Source)
steps_by size free = table_of size (steps_into size (entry false free))

-- the steps into each cell of a field; the table has it asked once for each cell whether it is free
abbrev pub steps_of : Field → Cell → Table (List Source)
steps_of field start = steps_by field.size (table_of field.size (is_free field start))

-- for each cell the least cost of a walk to it that is known so far
abbrev pub Costs : Type 0
Costs = Table (Option ℕ)

-- with no step the start is reached, at no cost
abbrev pub first_costs : Size → Cell → Costs
first_costs size start = table_of size (λ c. if same_cell c start then Some 0 else None)

-- the cost of a walk that ends with this step, where one is known to the cell that the step comes from
abbrev pub cost_by : Costs → Source → Option ℕ
cost_by costs s = option_map (λ d. d + s.cost) (entry None costs s.cell)

-- the least cost of a walk to c that ends with one of these steps, or that has stayed at c
abbrev pub least_by : Costs → Cell → List Source → Option ℕ
least_by costs c steps = least_of (λ d. d ∷ []) (filter_map (cost_by costs) (record { cell = c; cost = 0 } ∷ steps))

-- the costs of walks with one step more
abbrev pub next_costs : Size → Table (List Source) → Costs → Costs
next_costs size steps costs = table_of size (λ c. least_by costs c (entry [] steps c))

-- more rounds, unless the last one changed nothing
abbrev pub unless_same : (Costs → Costs) → Costs → Bool → Costs
unless_same more costs true = costs
unless_same more costs false = more costs

-- more rounds after one that made the new costs of the old, unless they are the same
abbrev pub after_round : (Costs → Costs) → Costs → Costs → Costs
after_round more old new = unless_same more new (same_table (option_eq nat_eq) old new)

-- the costs after so many rounds
abbrev pub costs_after : Size → Table (List Source) → ℕ → Costs → Costs
costs_after size steps zero costs = costs
costs_after size steps (suc n) costs = after_round (costs_after size steps n) costs (next_costs size steps costs)

-- the least costs: a walk need be at no cell twice, so there are rounds enough where there are as many as cells
abbrev pub costs_of : Size → Table (List Source) → Cell → Costs
costs_of size steps start = costs_after size steps (size.width * size.depth) (first_costs size start)

-- The way as a plain, slow program: from the least costs it takes the end, the trail back from there, and the points.
-- What is used more than once is handed on as an argument, so that it is computed once.

-- a cell that is reached, and its cost
pub record Reached : Type 0 where
  pub cell : Cell
  pub cost : ℕ

-- the cells that are reached
abbrev pub reached_of : Size → Costs → List Reached
reached_of size costs = filter_map (λ c. option_map (λ d. record { cell = c; cost = d }) (entry None costs c)) (cells_of size)

-- the reached cell whose key is least
abbrev pub end_of : Size → Cell → Costs → Option Reached
end_of size goal costs = least_of (λ (r : Reached). end_key goal r.cell r.cost) (reached_of size costs)

-- the first of the steps by which a walk comes to the cost d
abbrev pub predecessor : Costs → ℕ → List Source → Option Source
predecessor costs d steps = find (λ s. option_eq nat_eq (cost_by costs s) (Some d)) steps

-- c, which costs d, and the trail from its predecessor, which costs so much less; the start has no predecessor
abbrev pub trail_by : (Cell → ℕ → List Cell) → Cell → ℕ → Option Source → List Cell
trail_by trail c d None = []
trail_by trail c d (Some s) = c ∷ trail s.cell (d - s.cost)

-- the cells from c, which costs d, back to the start, without the start; at most n of them
abbrev pub trail_of : Table (List Source) → Costs → ℕ → Cell → ℕ → List Cell
trail_of steps costs zero c d = []
trail_of steps costs (suc n) c d = trail_by (trail_of steps costs n) c d (predecessor costs d (entry [] steps c))

-- the points to the end; each step costs something, so the end's cost bounds the length of the trail
abbrev pub points_to : Table (List Source) → Costs → Point → Option Reached → List Point
points_to steps costs goal None = []
points_to steps costs goal (Some e) = waypoints goal (reverse (trail_of steps costs e.cost e.cell e.cost))

-- the way by these costs
abbrev pub way_by : Size → Table (List Source) → Point → Costs → Way
way_by size steps goal costs = first_points (points_to steps costs goal (end_of size (cell_of goal) costs))

-- the way by these steps
abbrev pub way_over : Size → Cell → Point → Table (List Source) → Way
way_over size start goal steps = way_by size steps goal (costs_of size steps start)

-- the way, by whether both points lie in one cell; if they do, nothing is searched
abbrev pub way_between : Field → Point → Point → Bool → Way
way_between field from goal true = record { points = goal ∷ []; whole = true }
way_between field from goal false = way_over field.size (cell_of from) goal (steps_of field (cell_of from))

-- the way from a point to another
unfoldable pub way_of : Field → Point → Point → Way
way_of field from goal = way_between field from goal (same_cell (cell_of from) (cell_of goal))
