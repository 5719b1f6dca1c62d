-- The changes that make up a phase of a turn, all found from the one state before it: row by row, by ascending id.
use Rattle.sim_base.specs.declared.change.Change.TheVariants as change
use Rattle.sim_plans.specs.Common.{Aim, applied, applied_all, Arms, arms_of, Attack, beq, Cell, centre_of, Change, Command, commanded, Delete, Going, has_room}
use Rattle.sim_plans.specs.Common.{Hit, hitting, id_of, int_max, is_enemy, is_idle, is_inside, is_near, is_ordered, is_placeable, is_spent, IsLooselyValid}
use Rattle.sim_plans.specs.Common.{IsOrderOf, IsSetup, IsStrictlyIncreasing, IsValid, lets_go, Motion, moved_row, Place, PlayerCommand, Point, Resign, Row}
use Rattle.sim_plans.specs.Common.{row_of, same_point, Setup, size_of, speed_of, spot, State, Still, Stop, taken_from, target_for, target_of, template_of, Tick}
use Rattle.sim_plans.specs.{Common.{Train, trains, turn, Walk}, RowChanges.{AllFit, Fits, OfRow, set_by_all, Suits}}
use Rattle.std.specs.{List.flat_map, Prelude.{All, Bool, false, filter, if◌then◌else◌, length, List, map, None, Option, pos, slice_get, Some, true, ℕ, ℤ, []}}
use Rattle.std.specs.Prelude.{◌&&◌, ◌++◌, ◌-ℤ◌, ◌-◌, ◌<◌, ◌==◌, ◌∷◌, ◌≡◌}

-- Changes of one row. A part that has its value already is not set again.

-- an aim takes a target
abbrev pub target_changes : ℕ → ℕ → Option Aim → List Change
target_changes target id None = []
target_changes target id (Some aim) = if aim.target == target then [] else change.Attack id (record aim { target = target }) ∷ []

-- a row that goes stands still
abbrev pub halt_changes : ℕ → Option Motion → List Change
halt_changes id None = []
halt_changes id (Some Still) = []
halt_changes id (Some (Going goal way whole)) = change.Motion id Still ∷ []

-- a row takes a target and stands still; whether it holds its place stays as it was
abbrev pub turn_changes : ℕ → Row → List Change
turn_changes target row = target_changes target row.id row.attack ++ halt_changes row.id row.motion

-- an aim takes a target, and holds its place from now on or does not
abbrev pub stance_changes : ℕ → Bool → ℕ → Option Aim → List Change
stance_changes target hold id None = []
stance_changes target hold id (Some aim) =
    if aim.target == target && beq aim.hold hold then [] else change.Attack id (record aim { target = target; hold = hold }) ∷ []

-- a row takes a target, holds its place from now on or does not, and stands still
abbrev pub stand_changes : ℕ → Bool → Row → List Change
stand_changes target hold row = stance_changes target hold row.id row.attack ++ halt_changes row.id row.motion

-- whether a row goes on as it went. Its goal tells, and the number of its waypoints, since of a way that it keeps it loses
-- those that it has reached
abbrev pub goes_on : Option Motion → Motion → Bool
goes_on None motion = false
goes_on (Some Still) Still = true
goes_on (Some Still) (Going to rest all) = false
goes_on (Some (Going goal way whole)) Still = false
goes_on (Some (Going goal way whole)) (Going to rest all) = same_point goal to && length way == length rest

-- a motion becomes another one; where the row goes on as it went, nothing is set
abbrev pub motion_changes : ℕ → Option Motion → Option Motion → List Change
motion_changes id before None = []
motion_changes id before (Some motion) = if goes_on before motion then [] else change.Motion id motion ∷ []

-- a row comes to stand and to go as another one
abbrev pub step_changes : Row → Row → List Change
step_changes row new = (if same_point row.at new.at then [] else change.Move row.id new.at ∷ []) ++ motion_changes row.id row.motion new.motion

-- ---- aims

-- whom a row with these arms would attack, or 0
abbrev pub next_target : Setup → State → Row → Option Arms → ℕ
next_target setup state row None = 0
next_target setup state row (Some arms) = target_for setup state row arms

-- a row that lets go of its target stands still and looks for another one, and an idle row looks for one
abbrev pub aim_changes_by : Bool → Bool → ℕ → Row → List Change
aim_changes_by true idle target row = turn_changes target row
aim_changes_by false true target row = target_changes target row.id row.attack
aim_changes_by false false target row = []

abbrev pub aim_changes_of : Setup → State → Row → List Change
aim_changes_of setup state row = aim_changes_by (lets_go setup row (row_of state (target_of row))) (is_idle row)
    (next_target setup state row (arms_of setup row)) row

abbrev pub aim_plan : Setup → State → List Change
aim_plan setup state = flat_map (aim_changes_of setup state) state.rows

-- ---- moves

-- a row that can move comes to stand and to go as the phase says
abbrev pub move_changes_by : Setup → State → Row → Option Motion → Option ℤ → List Change
move_changes_by setup state row (Some motion) (Some speed) = step_changes row (moved_row setup state row (Some motion) (Some speed))
move_changes_by setup state row (Some motion) None = []
move_changes_by setup state row None speed = []

abbrev pub move_changes_of : Setup → State → Row → List Change
move_changes_of setup state row = move_changes_by setup state row row.motion (speed_of setup row)

abbrev pub move_plan : Setup → State → List Change
move_plan setup state = flat_map (move_changes_of setup state) state.rows

-- ---- hits

-- an aim must wait so many turns
abbrev pub cooldown_change : ℕ → Aim → ℕ → Change
cooldown_change id aim cooldown = change.Attack id (record aim { cooldown = cooldown })

-- a row that may hit must wait where its target is in range
abbrev pub strike_changes : Row → Aim → Arms → Option Row → List Change
strike_changes row aim arms None = []
strike_changes row aim arms (Some target) = if is_near target.at row.at arms.range then cooldown_change row.id aim arms.repeat ∷ [] else []

-- a row that must wait comes a turn nearer to its next hit
abbrev pub fight_changes_by : State → Row → Option Aim → Option Arms → List Change
fight_changes_by state row (Some aim) (Some arms) =
    if aim.cooldown == 0 then strike_changes row aim arms (row_of state aim.target) else cooldown_change row.id aim (aim.cooldown - 1) ∷ []
fight_changes_by state row (Some aim) None = []
fight_changes_by state row None arms = []

abbrev pub fight_changes_of : Setup → State → Row → List Change
fight_changes_of setup state row = fight_changes_by state row row.attack (arms_of setup row)

-- a health falls by what is taken, and not below 0
abbrev pub hurt_changes_by : ℕ → ℕ → Option ℤ → List Change
hurt_changes_by id taken None = []
hurt_changes_by id taken (Some health) = if taken == 0 then [] else change.Health id (int_max (health -ℤ pos taken) (pos 0)) ∷ []

abbrev pub hurt_changes_of : List Hit → Row → List Change
hurt_changes_of hits row = hurt_changes_by row.id (taken_from row.id hits) row.health

-- first all rows fight, then the word is what it has come to, and then healths fall
abbrev pub hit_plan : Setup → State → List Change
hit_plan setup state =
    flat_map (fight_changes_of setup state) state.rows ++ change.Word (hitting setup state).word ∷ flat_map (hurt_changes_of (hitting setup state).hits)
    state.rows

-- ---- those without health go

abbrev pub gone_plan : State → List Change
gone_plan state = map (λ id. change.Remove id) (map id_of (filter (λ row. is_spent row.health) state.rows))

-- The changes that make up a command.

-- the changes of each row that is ordered
abbrev pub ordered_changes : ℕ → List ℕ → (Row → List Change) → State → List Change
ordered_changes player ids changes state = flat_map (λ row. if is_ordered player ids row then changes row else []) state.rows

-- a row that can move goes to a point, forgets its target and holds its place no more
abbrev pub sent_changes_by : Point → ℕ → Option Motion → Option Aim → List Change
sent_changes_by p id None aim = []
sent_changes_by p id (Some motion) aim = change.Motion id (Going p [] false) ∷ stance_changes 0 false id aim

abbrev pub sent_changes : Point → Row → List Change
sent_changes p row = sent_changes_by p row.id row.motion row.attack

-- a row is released, and holds its place
abbrev pub stop_changes : Row → List Change
stop_changes = stand_changes 0 true

-- a row that can attack takes a target, stands still and holds its place no more
abbrev pub set_on_changes_by : ℕ → Row → Option Aim → List Change
set_on_changes_by target row None = []
set_on_changes_by target row (Some aim) = stand_changes target false row

abbrev pub set_on_changes : ℕ → Row → List Change
set_on_changes target row = set_on_changes_by target row row.attack

-- a new row in the middle of a cell, if there is one
abbrev pub place_changes : ℕ → ℕ → Option Cell → List Change
place_changes player number None = []
place_changes player number (Some c) = change.Create number (centre_of c) player ∷ []

-- a building trains a new row beside itself
abbrev pub train_changes : Setup → State → ℕ → ℕ → Option Row → List Change
train_changes setup state player number None = []
train_changes setup state player number (Some building) =
    if building.owner == player && trains (template_of setup building) number (slice_get setup.templates number) && has_room setup state player
    then place_changes player number (spot setup state building.at)
    else []

abbrev pub command_plan_by : Setup → State → ℕ → Command → List Change
command_plan_by setup state player (Walk ids p) = if is_inside (size_of setup.land) p then ordered_changes player ids (sent_changes p) state else []
command_plan_by setup state player (Stop ids) = ordered_changes player ids stop_changes state
command_plan_by setup state player (Attack ids target) = if is_enemy setup player (row_of state target) then ordered_changes player ids (set_on_changes target)
    state else []
command_plan_by setup state player (Delete ids) = map (λ id. change.Remove id) (map id_of (filter (is_ordered player ids) state.rows))
command_plan_by setup state player (Place number p) =
    if is_placeable setup state p (slice_get setup.templates number) && has_room setup state player then change.Create number p player ∷ [] else []
command_plan_by setup state player (Train building number) = train_changes setup state player number (row_of state building)
command_plan_by setup state player Resign = flat_map (λ row. if row.owner == player then change.Owner row.id 0 ∷ [] else []) state.rows

abbrev pub command_plan : Setup → State → PlayerCommand → List Change
command_plan setup state order = command_plan_by setup state order.player order.command

-- What the laws of plans say.

-- a change that fits keeps a state loosely valid
abbrev pub FittingKeepsLoose : Type 0
FittingKeepsLoose = (setup : Setup) (state : State) (c : Change) → IsSetup setup → IsLooselyValid setup state → Fits setup state c
    → IsLooselyValid setup (applied setup state c)

-- and so do changes that fit in order
abbrev pub AllFittingKeepLoose : Type 0
AllFittingKeepLoose = (setup : Setup) (state : State) (changes : List Change) → IsSetup setup → IsLooselyValid setup state → AllFit setup state changes
    → IsLooselyValid setup (applied_all setup state changes)

-- the changes of a plan fit in order, and give the phase
pub record IsPlanOf (setup : Setup) (state : State) (changes : List Change) (after : State) : Type 0 where
  pub fit : AllFit setup state changes
  pub give : applied_all setup state changes ≡ after

-- for every state that is loosely valid
abbrev pub Plans : (Setup → State → List Change) → (Setup → State → State) → Type 0
Plans plan phase = (setup : Setup) (state : State) → IsLooselyValid setup state → IsPlanOf setup state (plan setup state) (phase setup state)

-- the same of the plan of a command
abbrev pub CommandIsPlanned : Type 0
CommandIsPlanned =
    (setup : Setup) (state : State) (order : PlayerCommand) → IsSetup setup → IsOrderOf setup order → IsLooselyValid setup state
    → IsPlanOf setup state (command_plan setup state order) (commanded setup state order)

-- a change names a row of a player that is alive, or makes a row for him
abbrev pub IsOwnChange : State → ℕ → Change → Type 0
IsOwnChange state player (change.Move id p) = OfRow state id (λ row. row.owner ≡ player)
IsOwnChange state player (change.Motion id motion) = OfRow state id (λ row. row.owner ≡ player)
IsOwnChange state player (change.Attack id aim) = OfRow state id (λ row. row.owner ≡ player)
IsOwnChange state player (change.Health id health) = OfRow state id (λ row. row.owner ≡ player)
IsOwnChange state player (change.Owner id owner) = OfRow state id (λ row. row.owner ≡ player)
IsOwnChange state player (change.Remove id) = OfRow state id (λ row. row.owner ≡ player)
IsOwnChange state player (change.Create number p owner) = owner ≡ player
IsOwnChange state player (change.Word word) = ⊥
IsOwnChange state player change.Tick = ⊥

-- each change of a command names a row of the player who gives it, or makes one for him
abbrev pub CommandIsOwn : Type 0
CommandIsOwn =
    (setup : Setup) (state : State) (order : PlayerCommand) → IsSetup setup → IsOrderOf setup order → IsLooselyValid setup state
    → All (IsOwnChange state order.player) (command_plan setup state order)

-- the changes of all rows, row by row: where each row's own changes suit it beside the rows as they were, they fit in order
-- and give the state in which each row is what they make of it
abbrev pub RowByRow : Type 0
RowByRow =
    (setup : Setup) (state : State) (changes : Row → List Change) (become : Row → Row) → IsStrictlyIncreasing (map id_of state.rows)
    → All (λ row. All (Suits setup state.rows row) (changes row)) state.rows → All (λ row. set_by_all (changes row) row ≡ become row) state.rows
    → IsPlanOf setup state (flat_map changes state.rows) (record state { rows = map become state.rows })

-- a plan after a plan
abbrev pub OneAfterAnother : Type 0
OneAfterAnother =
    (setup : Setup) (state middle after : State) (first second : List Change) → IsPlanOf setup state first middle → IsPlanOf setup middle second after
    → IsPlanOf setup state (first ++ second) after

-- A turn as changes: each command's plan and each phase's plan is made for the state which those before it leave.

-- the changes of commands, in order
abbrev pub orders_plan : Setup → State → List PlayerCommand → List Change
orders_plan setup state [] = []
orders_plan setup state (order ∷ orders) = command_plan setup state order ++ orders_plan setup (applied_all setup state (command_plan setup state order)) orders

-- a plan, and then a plan for the state to which it leads
abbrev pub then_plan : Setup → State → List Change → (State → List Change) → List Change
then_plan setup state first second = first ++ second (applied_all setup state first)

-- the changes from each phase on
abbrev pub gone_on : State → List Change
gone_on state = gone_plan state ++ Tick ∷ []

abbrev pub hit_on : Setup → State → List Change
hit_on setup state = then_plan setup state (hit_plan setup state) gone_on

abbrev pub move_on : Setup → State → List Change
move_on setup state = then_plan setup state (move_plan setup state) (hit_on setup)

abbrev pub aim_on : Setup → State → List Change
aim_on setup state = then_plan setup state (aim_plan setup state) (move_on setup)

-- the changes of a turn
abbrev pub turn_plan : Setup → State → List PlayerCommand → List Change
turn_plan setup state orders = then_plan setup state (orders_plan setup state orders) (aim_on setup)

-- they fit in order, and give the turn
abbrev pub TurnIsPlanned : Type 0
TurnIsPlanned =
    (setup : Setup) (state : State) (orders : List PlayerCommand) → IsSetup setup → All (IsOrderOf setup) orders → IsValid setup state
    → state.turn < setup.turns
    → IsPlanOf setup state (turn_plan setup state orders) (turn setup state orders)
