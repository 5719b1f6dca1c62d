-- What a command of a player makes of a state. A command whose condition fails leaves it.
use Rattle.sim_base.specs.declared.change.Change.TheVariants as change
use Rattle.sim_base.specs.declared.{change.Change.Change, command.Command.{Command, TheVariants.{Attack, Delete, Place, Resign, Stop, Train, Walk}}}
use Rattle.sim_base.specs.declared.{command.PlayerCommand.PlayerCommand, place.{Cell.Cell, Point.Point, Rect.Rect}, setup.Setup.Setup}
use Rattle.sim_base.specs.declared.{state.{Aim.Aim, Motion.{Motion, TheVariants.{Going, Still}}, Row.Row, State.State}, template.{Arms.Arms, Base.Base}}
use Rattle.sim_base.specs.{declared.template.Template.Template, Limits.row_limit, Places.{cells_of, centre_of, covers, Field, is_inside, is_rect_inside}}
use Rattle.sim_base.specs.{Places.{rect_of, square}, Rows.{enemies_of, id_of, in_mask, rect_of_row, row_of, size_of, target_of, template_of}, Ways.least_of}
use Rattle.std.specs.{List.{list_all, list_any}, Prelude.{Bool, count_by, false, filter, fold, if◌then◌else◌, is_none, is_some, length, List, map, nat_le}}
use Rattle.std.specs.Prelude.{nat_lt, None, not, Option, option_map, slice_get, Some, true, unsigned_abs, ℕ, ℤ, [], ◌&&◌, ◌*◌, ◌++◌, ◌+◌, ◌==◌, ◌||◌, ◌∷◌}

-- What a change makes of a state.

-- a row with another target
abbrev pub aimed_at : ℕ → Row → Row
aimed_at target row = record row { attack = option_map (λ (aim : Aim). record aim { target = target }) row.attack }

-- a row that holds its place or does not, if it can attack at all
abbrev pub with_stance : Bool → Row → Row
with_stance hold row = record row { attack = option_map (λ (aim : Aim). record aim { hold = hold }) row.attack }

-- a row that stands still, if it can move at all
abbrev pub halted : Row → Row
halted row = record row { motion = option_map (λ (motion : Motion). Still) row.motion }

-- the target becomes none, and a motion becomes still; one that holds its place goes on holding it
abbrev pub released : Row → Row
released row = halted (aimed_at 0 row)

-- the row with this id is changed
abbrev pub with_row : ℕ → (Row → Row) → State → State
with_row id changed state = record state { rows = map (λ row. if row.id == id then changed row else row) state.rows }

-- the row leaves, and the rows whose target it was are released
abbrev pub removed : ℕ → State → State
removed id state =
    record state { rows = map (λ row. if target_of row == id then released row else row) (filter (λ row. not (row.id == id)) state.rows) }

-- a new row is unhurt, stands still, has no target and does not hold its place
abbrev pub new_row : ℕ → ℕ → Point → ℕ → Template → Row
new_row id number p owner template =
    record {
      id = id;
      template = number;
      at = p;
      owner = owner;
      health = template.health;
      motion = option_map (λ (speed : ℤ). Still) template.speed;
      attack = option_map (λ (arms : Arms). record { target = 0; cooldown = 0; hold = false }) template.arms;
    }

-- a new row of a template that is known has the next id
abbrev pub with_new : ℕ → Point → ℕ → Option Template → State → State
with_new number p owner None state = state
with_new number p owner (Some template) state =
    record state { next = state.next + 1; rows = state.rows ++ new_row state.next number p owner template ∷ [] }

-- the state with a new row of a known template; of an unknown one, the state as it is
abbrev pub created : Setup → State → ℕ → Point → ℕ → State
created setup state number p owner = with_new number p owner (slice_get setup.templates number) state

-- the state after one change
abbrev pub applied : Setup → State → Change → State
applied setup state (change.Move id p) = with_row id (λ row. record row { at = p }) state
applied setup state (change.Motion id motion) = with_row id (λ row. record row { motion = Some motion }) state
applied setup state (change.Attack id aim) = with_row id (λ row. record row { attack = Some aim }) state
applied setup state (change.Health id health) = with_row id (λ row. record row { health = Some health }) state
applied setup state (change.Owner id owner) = with_row id (λ row. record row { owner = owner }) state
applied setup state (change.Remove id) = removed id state
applied setup state (change.Create number p owner) = created setup state number p owner
applied setup state (change.Word word) = record state { word = word }
applied setup state change.Tick = record state { turn = state.turn + 1 }

-- changes are made in order
abbrev pub applied_all : Setup → State → List Change → State
applied_all setup = fold (applied setup)

-- What is asked of a state: each answer is a filter, a count or a least member over all rows or all cells.

abbrev pub rect_covers : Option Rect → Cell → Bool
rect_covers None c = false
rect_covers (Some r) c = covers r c

-- no closed rectangle and no row's rectangle covers the cell
abbrev pub is_open : Setup → State → Cell → Bool
is_open setup state c =
    not (list_any (λ r. covers r c) setup.land.closed) && not (list_any (λ row. rect_covers (rect_of_row setup row) c) state.rows)

-- the ground over which ways are asked
abbrev pub field_of : Setup → State → Field
field_of setup state = record { size = size_of setup.land; is_open = is_open setup state }

-- the rectangle lies on the ground, and all its cells are open
abbrev pub is_free_rect : Setup → State → Rect → Bool
is_free_rect setup state r =
    is_rect_inside (size_of setup.land) r && list_all (λ c. not (covers r c) || is_open setup state c) (cells_of (size_of setup.land))

-- two points are at most a raw apart
abbrev pub is_near : Point → Point → ℤ → Bool
is_near p q radius = nat_le (square p q) (unsigned_abs radius * unsigned_abs radius)

-- the rows with health of the masked owners that are near a point, ascending by id
abbrev pub within : State → Point → ℤ → ℕ → List ℕ
within state p radius mask =
    map id_of (filter (λ row. is_some row.health && in_mask mask row.owner && is_near row.at p radius) state.rows)

-- the enemies that a row with these arms sees, ascending by id
abbrev pub seen : Setup → State → Row → Arms → List ℕ
seen setup state row arms = filter (λ id. not (id == row.id)) (within state row.at arms.vision (enemies_of setup row.owner))

-- the rows whose target this is, ascending by id; none for no target
abbrev pub watchers : State → ℕ → List ℕ
watchers state id = map id_of (filter (λ row. not (id == 0) && target_of row == id) state.rows)

-- how many rows an owner has
abbrev pub population : State → ℕ → ℕ
population state owner = count_by (λ row. row.owner == owner) state.rows

-- the open cell whose centre is nearest to a point; of several the one with the least z, then the least x
abbrev pub spot : Setup → State → Point → Option Cell
spot setup state p =
    least_of (λ c. square (centre_of c) p ∷ c.z ∷ c.x ∷ []) (filter (is_open setup state) (cells_of (size_of setup.land)))

-- a row is ordered where the commander owns it and its id is among those named, however often
abbrev pub is_ordered : ℕ → List ℕ → Row → Bool
is_ordered player ids row = row.owner == player && list_any (λ id. id == row.id) ids

-- each row that is ordered is changed
abbrev pub with_ordered : ℕ → List ℕ → (Row → Row) → State → State
with_ordered player ids changed state =
    record state { rows = map (λ row. if is_ordered player ids row then changed row else row) state.rows }

-- a row that can move goes to a point, by a way that is still to be asked, forgets its target and holds its place no more
abbrev pub sent_by : Point → Row → Option Motion → Row
sent_by p row None = row
sent_by p row (Some motion) = record (with_stance false (aimed_at 0 row)) { motion = Some (Going p [] false) }

-- the same by the row's own motion
abbrev pub sent : Point → Row → Row
sent p row = sent_by p row row.motion

-- a row is released, and holds its place
abbrev pub stopped : Row → Row
stopped row = with_stance true (released row)

-- a row that can attack takes a target, stands still and holds its place no more
abbrev pub set_on_by : ℕ → Row → Option Aim → Row
set_on_by target row None = row
set_on_by target row (Some aim) = halted (with_stance false (aimed_at target row))

-- the same by the row's own attack
abbrev pub set_on : ℕ → Row → Row
set_on target row = set_on_by target row row.attack

-- a row that may be attacked: it has health, and its owner is an enemy
abbrev pub is_enemy : Setup → ℕ → Option Row → Bool
is_enemy setup player None = false
is_enemy setup player (Some row) = is_some row.health && in_mask (enemies_of setup player) row.owner

-- a new row may be made for a player
abbrev pub has_room : Setup → State → ℕ → Bool
has_room setup state player =
    nat_lt (length state.rows) row_limit && nat_lt state.next 0x20000000 && nat_lt (population state player) setup.cap

-- there is an obstruction, and its rectangle at a point is free
abbrev pub has_free_base : Setup → State → Point → Option Base → Bool
has_free_base setup state p None = false
has_free_base setup state p (Some base) = is_inside (size_of setup.land) p && is_free_rect setup state (rect_of p base.width base.depth)

-- a template may be placed: it is known, and its rectangle is free
abbrev pub is_placeable : Setup → State → Point → Option Template → Bool
is_placeable setup state p None = false
is_placeable setup state p (Some template) = has_free_base setup state p template.obstruct

-- a number is among those that a building trains, if it trains any
abbrev pub lists : ℕ → Option (List ℕ) → Bool
lists number None = false
lists number (Some numbers) = list_any (λ n. n == number) numbers

-- the building trains templates of this number, and these are no obstructions
abbrev pub trains : Option Template → ℕ → Option Template → Bool
trains (Some building) number (Some template) = lists number building.train && is_none template.obstruct
trains None number template = false
trains (Some building) number None = false

-- a new row in the middle of a cell, if there is one
abbrev pub placed_on : Setup → State → ℕ → ℕ → Option Cell → State
placed_on setup state player number None = state
placed_on setup state player number (Some c) = created setup state number (centre_of c) player

-- a new row stands on the spot of a building, where it may be trained
abbrev pub trained_if : Setup → State → ℕ → ℕ → Row → Bool → State
trained_if setup state player number building false = state
trained_if setup state player number building true = placed_on setup state player number (spot setup state building.at)

-- a building trains a new row beside itself
abbrev pub trained : Setup → State → ℕ → ℕ → Option Row → State
trained setup state player number None = state
trained setup state player number (Some building) =
    trained_if setup state player number building (building.owner == player && trains (template_of setup building) number (slice_get setup.templates number)
    && has_room setup state player)

-- the state after a player's command
abbrev pub commanded_by : Setup → State → ℕ → Command → State
commanded_by setup state player (Walk ids p) = if is_inside (size_of setup.land) p then with_ordered player ids (sent p) state else state
commanded_by setup state player (Stop ids) = with_ordered player ids stopped state
commanded_by setup state player (Attack ids target) = if is_enemy setup player (row_of state target) then with_ordered player ids (set_on target) state
    else state
commanded_by setup state player (Delete ids) = fold (λ s id. removed id s) state (map id_of (filter (is_ordered player ids) state.rows))
commanded_by setup state player (Place number p) =
    if is_placeable setup state p (slice_get setup.templates number) && has_room setup state player then created setup state number p player else state
commanded_by setup state player (Train building number) = trained setup state player number (row_of state building)
commanded_by setup state player Resign = record state { rows = map (λ (row : Row). if row.owner == player then record row { owner = 0 } else row) state.rows }

-- the same of a command beside its player
abbrev pub commanded : Setup → State → PlayerCommand → State
commanded setup state order = commanded_by setup state order.player order.command
