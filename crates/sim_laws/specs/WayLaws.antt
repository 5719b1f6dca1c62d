-- What the laws of ways say.
use Rattle.sim_base.specs.{Limits.waypoint_limit, Places.Field, Places.IsOnGround, Places.Size, Places.cell_of, Places.is_inside, Ways.IsWay, Ways.Way}
use Rattle.sim_base.specs.{Ways.way_of, declared.place.Cell.Cell, declared.place.Point.Point}
use Rattle.std.specs.Prelude.{All, Bool, IsTrue, length, ◌≡◌, ◌≤◌}

-- two ways of one question are equal
abbrev pub WayIsUnique : Type 0
WayIsUnique = (field : Field) (from goal : Point) (v w : Way) → IsWay field from goal v → IsWay field from goal w → v ≡ w

-- from a cell of the ground the function answers a way
abbrev pub WayOfIsWay : Type 0
WayOfIsWay = (field : Field) (from goal : Point) → IsOnGround field.size (cell_of from) → IsWay field from goal (way_of field from goal)

-- and no other one
abbrev pub WayIsWayOf : Type 0
WayIsWayOf = (field : Field) (from goal : Point) (way : Way) → IsOnGround field.size (cell_of from) → IsWay field from goal way → way ≡ way_of field from goal

-- the cell of a point that lies on the ground is one of the ground's
abbrev pub InsideIsOnGround : Type 0
InsideIsOnGround = (size : Size) (p : Point) → IsTrue (is_inside size p) → IsOnGround size (cell_of p)

-- a way to a point of the ground stays on the ground
abbrev pub WayOfStaysInside : Type 0
WayOfStaysInside = (field : Field) (from goal : Point) → IsOnGround field.size (cell_of from) → IsTrue (is_inside field.size goal)
    → All (λ p. IsTrue (is_inside field.size p)) (way_of field from goal).points

-- a way has no more points than it may have
abbrev pub WayOfIsShort : Type 0
WayOfIsShort = (field : Field) (from goal : Point) → length (way_of field from goal).points ≤ waypoint_limit

-- where two tests agree on the cells of the ground, the ways are the same
abbrev pub WayOfByGround : Type 0
WayOfByGround =
    (size : Size) (is_open is_clear : Cell → Bool) → ((c : Cell) → IsOnGround size c → is_open c ≡ is_clear c)
    → (from goal : Point) → way_of (record { size = size; is_open = is_open }) from goal ≡ way_of (record { size = size; is_open = is_clear }) from goal
