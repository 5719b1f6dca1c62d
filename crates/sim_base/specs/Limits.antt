-- How many rows, waypoints and bytes there may be, and the limits that the setup of every match meets.
use Rattle.sim_base.specs.declared.{command.Command.{Command, TheVariants.{Attack, Delete, Place, Resign, Stop, Train, Walk}}, place.{Point.Point, Rect.Rect}}
use Rattle.sim_base.specs.declared.{setup.{First.First, Land.Land, Setup.Setup, Timed.Timed}, state.{Aim.Aim, Motion.{Motion, TheVariants.{Going, Still}}}}
use Rattle.sim_base.specs.{declared.{state.{Row.Row, State.State}, template.{Arms.Arms, Template.Template}}, Names.is_name, Places.{is_inside, is_rect_inside}}
use Rattle.{sim_base.specs.Rows.{id_of, in_mask, size_of, template_of}, std.specs.List.{list_any, Sorted.{IsNonDecreasing, IsStrictlyIncreasing}}}
use Rattle.std.specs.Prelude.{All, AllPairs, Bool, count_by, EachIndex, false, IfSome, is_some, IsNone, IsSome, IsTrue, length, List, map, MatchOption, None}
use Rattle.std.specs.Prelude.{Option, pos, slice_index, Some, ℕ, ℤ, ◌&&◌, ◌+◌, ◌<◌, ◌==◌, ◌^◌, ◌≡◌, ◌≢◌, ◌≤ℤ◌, ◌≤◌, ◌⊎◌}

-- how many rows a state has at most
abbrev pub row_limit : ℕ
row_limit = 4096

-- how many waypoints a way has at most
abbrev pub waypoint_limit : ℕ
waypoint_limit = 64

-- how many bytes a file has at most that is read
abbrev pub file_limit : ℕ
file_limit = 16777216

-- a number within two bounds, both included
abbrev pub IsFrom : ℕ → ℕ → ℕ → Type 0
IsFrom low high n = (low ≤ n) × (n ≤ high)

-- the same of a raw
abbrev pub IsRawFrom : ℕ → ℕ → ℤ → Type 0
IsRawFrom low high raw = (pos low ≤ℤ raw) × (raw ≤ℤ pos high)

-- a closed rectangle lies on the ground, its corners in order
pub record IsClosed (land : Land) (r : Rect) : Type 0 where
  pub ordered_x : r.x0 ≤ℤ r.x1
  pub ordered_z : r.z0 ≤ℤ r.z1
  pub inside : IsTrue (is_rect_inside (size_of land) r)

-- a mask has bits for owners alone, and none for its own owner
pub record IsMask (owners owner mask : ℕ) : Type 0 where
  pub owners_alone : mask < 2 ^ owners
  pub not_itself : in_mask mask owner ≡ false

-- the ground of a match, and the enemies of each owner
pub record IsLand (land : Land) : Type 0 where
  pub width : IsFrom 1 256 land.width
  pub depth : IsFrom 1 256 land.depth
  pub few_closed : length land.closed ≤ 4096
  pub closed : All (IsClosed land) land.closed
  pub players : IsFrom 2 9 (length land.masks)
  pub gaia : slice_index land.masks 0 ≡ 0
  pub masks : EachIndex land.masks (λ owner. IsMask (length land.masks) owner (slice_index land.masks owner))

-- the limits of an attack
pub record IsArms (arms : Arms) : Type 0 where
  pub hack : IsRawFrom 0 65536000 arms.harm.hack
  pub pierce : IsRawFrom 0 65536000 arms.harm.pierce
  pub crush : IsRawFrom 0 65536000 arms.harm.crush
  pub range : IsRawFrom 0 16777216 arms.range
  pub vision : IsRawFrom 0 16777216 arms.vision
  pub repeat : arms.repeat ≤ 1000
  pub accuracy : arms.accuracy ≤ 100

-- a template of a match that has so many
pub record IsTemplate (count : ℕ) (t : Template) : Type 0 where
  pub name : IsTrue (is_name t.name)
  pub health : IfSome t.health (IsRawFrom 1 1048576000)
  pub resist : (t.resist.hack ≤ 40) × (t.resist.pierce ≤ 40) × (t.resist.crush ≤ 40)
  pub speed : IfSome t.speed (IsRawFrom 5 6553600)
  pub obstruct : IfSome t.obstruct (λ base. IsFrom 1 16 base.width × IsFrom 1 16 base.depth)
  pub arms : IfSome t.arms IsArms
  pub train : IfSome t.train (λ numbers. (length numbers ≤ 64) × All (λ n. n < count) numbers)
  pub moves_or_obstructs : IsSome t.speed → IsNone t.obstruct

-- a first entity is of a known template, of Gaia or a player, and inside
pub record IsFirst (setup : Setup) (first : First) : Type 0 where
  pub template : first.template < length setup.templates
  pub owner : first.owner ≤ setup.players
  pub at : IsTrue (is_inside (size_of setup.land) first.at)

-- how many entities a command names at most
abbrev pub HasFewIds : Command → Type 0
HasFewIds (Walk ids to) = length ids ≤ 256
HasFewIds (Stop ids) = length ids ≤ 256
HasFewIds (Attack ids target) = length ids ≤ 256
HasFewIds (Delete ids) = length ids ≤ 256
HasFewIds (Place template at) = Unit {0}
HasFewIds (Train building template) = Unit {0}
HasFewIds Resign = Unit {0}

-- a command is of a turn and of a player of the match
pub record IsTimed (setup : Setup) (timed : Timed) : Type 0 where
  pub turn : IsFrom 1 setup.turns timed.turn
  pub player : IsFrom 1 setup.players timed.order.player
  pub ids : HasFewIds timed.order.command

-- a command is given in this turn by this player
abbrev pub is_given : ℕ → ℕ → Timed → Bool
is_given turn player timed = timed.turn == turn && timed.order.player == player

-- the limits of a match
pub record IsSetup (setup : Setup) : Type 0 where
  pub id : length setup.id ≡ 16
  pub land : IsLand setup.land
  pub players : setup.players + 1 ≡ length setup.land.masks
  pub cap : setup.cap ≤ row_limit
  pub delay : IsFrom 1 8 setup.delay
  pub turns : setup.turns ≤ 65535
  pub seed : setup.seed < 2 ^ 48
  pub few_templates : length setup.templates ≤ 256
  pub templates : All (IsTemplate (length setup.templates)) setup.templates
  pub names : AllPairs (λ a b. a ≢ b) (map (λ (t : Template). t.name) setup.templates)
  pub few_first : length setup.first ≤ row_limit
  pub first : All (IsFirst setup) setup.first
  pub commands : All (IsTimed setup) setup.commands
  pub in_order : IsNonDecreasing (map (λ (timed : Timed). timed.turn) setup.commands)
  pub not_crowded : (turn player : ℕ) → count_by (is_given turn player) setup.commands ≤ 64

-- Which states are valid in a match.

-- a point lies on the ground of the match
abbrev pub IsInside : Setup → Point → Type 0
IsInside setup p = IsTrue (is_inside (size_of setup.land) p)

-- some row has this id and health
abbrev pub has_health : List Row → ℕ → Bool
has_health rows id = list_any (λ row. row.id == id && is_some row.health) rows

-- the goal and the waypoints of a motion are inside, and these are few
abbrev pub IsValidMotion : Setup → Motion → Type 0
IsValidMotion setup Still = Unit {0}
IsValidMotion setup (Going goal way whole) = IsInside setup goal × All (IsInside setup) way × (length way ≤ waypoint_limit)

-- the target is none, or another row that has health; it may hold its place or not
pub record IsValidAim (rows : List Row) (id : ℕ) (aim : Aim) (arms : Arms) : Type 0 where
  pub target : (aim.target ≡ 0) ⊎ ((aim.target ≢ id) × IsTrue (has_health rows aim.target))
  pub cooldown : aim.cooldown ≤ arms.repeat

-- both are there, or neither is, and what is said of the two holds
abbrev pub Both : {X Y : Type 0} → Option X → Option Y → (X → Y → Type 0) → Type 0
Both None None P = Unit {0}
Both None (Some y) P = ⊥
Both (Some x) None P = ⊥
Both (Some x) (Some y) P = P x y

-- a row has exactly those of health, motion and attack that its template has; `least` is the least health allowed
pub record IsValidRow (least : ℕ) (setup : Setup) (rows : List Row) (row : Row) (template : Template) : Type 0 where
  pub at : IsInside setup row.at
  pub owner : row.owner ≤ setup.players
  pub health : Both row.health template.health (λ health most. (pos least ≤ℤ health) × (health ≤ℤ most))
  pub motion : Both row.motion template.speed (λ motion speed. IsValidMotion setup motion)
  pub attack : Both row.attack template.arms (IsValidAim rows row.id)

-- its template is known, and it is a row of that template
abbrev pub IsKnownRow : ℕ → Setup → List Row → Row → Type 0
IsKnownRow least setup rows row = MatchOption (template_of setup row) ⊥ (IsValidRow least setup rows row)

-- what holds of a state between two turns, or between two changes where `least` is 0: it is the least health allowed
pub record IsState (least : ℕ) (setup : Setup) (state : State) : Type 0 where
  pub turn : state.turn ≤ setup.turns
  pub next : (2 ≤ state.next) × (state.next ≤ 0x20000000)
  pub word : state.word < 2 ^ 48
  pub few : length state.rows ≤ row_limit
  pub ascending : IsStrictlyIncreasing (map id_of state.rows)
  pub ids : All (λ row. (2 ≤ row.id) × (row.id < state.next)) state.rows
  pub rows : All (IsKnownRow least setup state.rows) state.rows

-- what holds of a state between two turns
abbrev pub IsValid : Setup → State → Type 0
IsValid = IsState 1

-- what holds between two changes inside a turn: a health may be 0
abbrev pub IsLooselyValid : Setup → State → Type 0
IsLooselyValid = IsState 0
