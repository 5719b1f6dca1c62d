-- A turn, and what a match has come to after a past.
use Rattle.sim_base.specs.Commands.{aimed_at, commanded, created, field_of, is_near, released, removed, seen, with_row}
use Rattle.sim_base.specs.declared.{command.PlayerCommand.PlayerCommand, place.Point.Point, setup.{First.First, Setup.Setup, Timed.Timed}}
use Rattle.sim_base.specs.declared.state.{Aim.Aim, Motion.{Motion, TheVariants.{Going, Still}}, Row.Row, State.State}
use Rattle.sim_base.specs.{declared.template.{Arms.Arms, Harm.Harm, Resist.Resist, Template.Template}, Places.{next_word, product, root, square, unit}}
use Rattle.sim_base.specs.{Rows.{arms_of, enemies_of, id_of, in_mask, is_going, is_holding, row_of, speed_of, target_of, template_of}, Ways.{least_of, way_of}}
use Rattle.std.specs.{Int.int_max, Ordering.int_eq, Prelude.{Bool, false, filter, fold, if◌then◌else◌, int_div, int_le, is_some, List, map, nat_le, nat_lt}}
use Rattle.std.specs.Prelude.{None, not, Option, option_and_then, option_map, pos, Some, suc, sum_by, true, unsigned_abs, unwrap_or, zero, ℕ, ℤ, [], ◌%◌, ◌&&◌}
use Rattle.std.specs.Prelude.{◌*ℤ◌, ◌*◌, ◌++◌, ◌+ℤ◌, ◌+◌, ◌-ℤ◌, ◌-◌, ◌/◌, ◌==◌, ◌^◌, ◌||◌, ◌∷◌}

-- The phase in which rows move. Each is moved by the one state before the phase.

abbrev pub same_point : Point → Point → Bool
same_point p q = int_eq p.x q.x && int_eq p.z q.z

-- on its way to a point: one that goes just there goes on, any other asks a way
abbrev pub headed : Point → Motion → Motion
headed p Still = Going p [] false
headed p (Going goal way whole) = if same_point goal p then Going goal way whole else Going p [] false

-- a fighter stands still where its target is in range, and else goes after it
abbrev pub chasing : Row → Motion → Option Row → Option Arms → Motion
chasing row motion (Some target) (Some arms) = if is_near target.at row.at arms.range then Still else headed target.at motion
chasing row motion (Some target) None = motion
chasing row motion None arms = motion

-- each coordinate changes by its share of the budget, truncated towards zero
abbrev pub toward : Point → Point → ℕ → ℕ → Point
toward p q budget distance =
    record {
      x = p.x +ℤ int_div ((q.x -ℤ p.x) *ℤ pos budget) (pos distance);
      z = p.z +ℤ int_div ((q.z -ℤ p.z) *ℤ pos budget) (pos distance);
    }

-- where a row has come to, and the waypoints that are left
pub record Walked : Type 0 where
  pub at : Point
  pub way : List Point

-- waypoints are reached as far as the budget goes, and the rest of it leads toward the next one
abbrev pub walked : Point → ℕ → List Point → Walked
walked p budget [] = record { at = p; way = [] }
walked p budget (q ∷ way) =
    let distance = root (square p q) in
    if nat_le distance budget then walked q (budget - distance) way else record { at = toward p q budget distance; way = q ∷ way }

-- at the end of a whole way a row stands still, and at the end of another it asks again in the next turn
abbrev pub after_walk : Point → Bool → List Point → Motion
after_walk goal true [] = Still
after_walk goal false [] = Going goal [] false
after_walk goal whole (q ∷ way) = Going goal (q ∷ way) whole

-- a row that has walked along its way as far as its budget goes
abbrev pub along : Row → ℕ → Point → List Point → Bool → Row
along row budget goal way whole =
    let w = walked row.at budget way in
    record row { at = w.at; motion = Some (after_walk goal whole w.way) }

-- a row whose way leads nowhere stands still
abbrev pub along_found : Row → ℕ → Point → List Point → Bool → Row
along_found row budget goal [] whole = record row { motion = Some Still }
along_found row budget goal (q ∷ way) whole = along row budget goal (q ∷ way) whole

-- a row that goes without a way asks one
abbrev pub moved_by : Setup → State → Row → ℕ → Motion → Row
moved_by setup state row budget Still = record row { motion = Some Still }
moved_by setup state row budget (Going goal [] false) = let way = way_of (field_of setup state) row.at goal in along_found row budget goal way.points way.whole
moved_by setup state row budget (Going goal [] true) = along row budget goal [] true
moved_by setup state row budget (Going goal (q ∷ way) whole) = along row budget goal (q ∷ way) whole

-- a turn is a fifth of a second
abbrev pub moved_row : Setup → State → Row → Option Motion → Option ℤ → Row
moved_row setup state row (Some motion) (Some speed) =
    moved_by setup state row (unsigned_abs speed / 5) (chasing row motion (row_of state (target_of row)) (arms_of setup row))
moved_row setup state row (Some motion) None = row
moved_row setup state row None speed = row

-- the phase: each row moves by the state before it
abbrev pub moved : Setup → State → State
moved setup state = record state { rows = map (λ row. moved_row setup state row row.motion (speed_of setup row)) state.rows }

-- The phase in which fighters choose their targets.

-- a point is within the range of a row with these arms
abbrev pub reaches : Row → Option Arms → Point → Bool
reaches row None p = false
reaches row (Some arms) p = is_near p row.at arms.range

-- a row lets go of a target whose owner is no enemy of its own, and, where it holds its place, of one out of its range
abbrev pub lets_go : Setup → Row → Option Row → Bool
lets_go setup row None = false
lets_go setup row (Some target) =
    not (in_mask (enemies_of setup row.owner) target.owner) || is_holding row && not (reaches row (arms_of setup row) target.at)

-- each row that lets go of its target is released
abbrev pub with_releases : Setup → State → State
with_releases setup state =
    record state { rows = map (λ row. if lets_go setup row (row_of state (target_of row)) then released row else row) state.rows }

-- the square of the distance to a row, or 0 where it is not there
abbrev pub square_to : State → Row → ℕ → ℕ
square_to state row id = unwrap_or (option_map (λ (other : Row). square other.at row.at) (row_of state id)) 0

-- a row may take any target, and where it holds its place one within its range alone
abbrev pub may_take : State → Row → Arms → ℕ → Bool
may_take state row arms id = not (is_holding row) || nat_le (square_to state row id) (unsigned_abs arms.range * unsigned_abs arms.range)

-- the enemies that it sees and may take as target, ascending by id
abbrev pub choices : Setup → State → Row → Arms → List ℕ
choices setup state row arms = filter (may_take state row arms) (seen setup state row arms)

-- the nearest of these, of several the one with the least id, or 0
abbrev pub target_for : Setup → State → Row → Arms → ℕ
target_for setup state row arms = unwrap_or (least_of (λ id. square_to state row id ∷ id ∷ []) (choices setup state row arms)) 0

-- a fighter without a target that is not on its way looks for one
abbrev pub is_idle : Row → Bool
is_idle row = is_some row.attack && target_of row == 0 && not (is_going row.motion)

-- a row that may look for a target takes the one that it finds
abbrev pub looking : Setup → State → Row → Bool → Option Arms → Row
looking setup state row true (Some arms) = aimed_at (target_for setup state row arms) row
looking setup state row true None = row
looking setup state row false arms = row

-- each idle fighter takes a target
abbrev pub with_targets : Setup → State → State
with_targets setup state = record state { rows = map (λ row. looking setup state row (is_idle row) (arms_of setup row)) state.rows }

-- the phase: targets are let go, and then targets are taken
abbrev pub aimed : Setup → State → State
aimed setup state = with_targets setup (with_releases setup state)

-- The phases in which fighters hit, and in which those without health go.

-- what is left of a damage of 1 at a level of resistance: nine tenths at each level
abbrev pub left_at : ℕ → ℤ
left_at zero = pos unit
left_at (suc level) = product (left_at level) (pos 58982)

-- what a hit takes
abbrev pub taken : Harm → Resist → ℕ
taken harm resist =
    unsigned_abs (product harm.hack (left_at resist.hack)) +
    unsigned_abs (product harm.pierce (left_at resist.pierce)) +
    unsigned_abs (product harm.crush (left_at resist.crush))

-- a hit that landed: whom it hurts, and what it takes
pub record Hit : Type 0 where
  pub target : ℕ
  pub taken : ℕ

-- what is done so far: the rows, the word, and the hits that landed
pub record Hitting : Type 0 where
  pub rows : List Row
  pub word : ℕ
  pub hits : List Hit

-- a word lets so many hits of a hundred land
abbrev pub lands : ℕ → ℕ → Bool
lands word accuracy = nat_lt (word / 2 ^ 17 % 100) accuracy

-- levels of 0
abbrev pub no_resist : Resist
no_resist = record { hack = 0; pierce = 0; crush = 0 }

-- the levels of a row's template
abbrev pub resist_of : Setup → Row → Resist
resist_of setup row = unwrap_or (option_map (λ (t : Template). t.resist) (template_of setup row)) no_resist

-- the hit that a row lands with this word, if it does
abbrev pub landed : Setup → Row → Arms → ℕ → List Hit
landed setup target arms word =
    if lands word arms.accuracy then record { target = target.id; taken = taken arms.harm (resist_of setup target) } ∷ [] else []

-- a row whose aim must wait so many turns
abbrev pub with_cooldown : Row → Aim → ℕ → Row
with_cooldown row aim cooldown = record row { attack = Some (record aim { cooldown = cooldown }) }

-- the word takes a step, and the row must wait
abbrev pub strikes : Setup → Hitting → Row → Aim → Arms → Row → Hitting
strikes setup so_far row aim arms target =
    let word = next_word so_far.word in
    record {
      rows = so_far.rows ++ with_cooldown row aim arms.repeat ∷ [];
      word = word;
      hits = so_far.hits ++ landed setup target arms word;
    }

-- the row does not hit
abbrev pub rests : Hitting → Row → Hitting
rests so_far row = record so_far { rows = so_far.rows ++ row ∷ [] }

-- a row that may hit does so where its target is in range
abbrev pub strikes_near : Setup → Hitting → Row → Aim → Arms → Option Row → Hitting
strikes_near setup so_far row aim arms None = rests so_far row
strikes_near setup so_far row aim arms (Some target) =
    if is_near target.at row.at arms.range then strikes setup so_far row aim arms target else rests so_far row

-- a row that must wait comes a turn nearer to its next hit
abbrev pub fights : Setup → State → Hitting → Row → Option Aim → Option Arms → Hitting
fights setup state so_far row (Some aim) (Some arms) =
    if aim.cooldown == 0
    then strikes_near setup so_far row aim arms (row_of state aim.target)
    else rests so_far (with_cooldown row aim (aim.cooldown - 1))
fights setup state so_far row (Some aim) None = rests so_far row
fights setup state so_far row None arms = rests so_far row

-- the rows go by ascending id against the state before the phase
abbrev pub hitting : Setup → State → Hitting
hitting setup state =
    fold (λ so_far row. fights setup state so_far row row.attack (arms_of setup row)) (record { rows = []; word = state.word; hits = [] }) state.rows

-- what all landed hits on a row take
abbrev pub taken_from : ℕ → List Hit → ℕ
taken_from id hits = sum_by (λ (h : Hit). h.taken) (filter (λ (h : Hit). h.target == id) hits)

-- a health falls by all landed hits, and not below 0
abbrev pub hurt : List Hit → Row → Row
hurt hits row = record row { health = option_map (λ (health : ℤ). int_max (health -ℤ pos (taken_from row.id hits)) (pos 0)) row.health }

-- the phase: all rows hit by the state before it, and then each health falls
abbrev pub hit : Setup → State → State
hit setup state =
    let done = hitting setup state in
    record state { word = done.word; rows = map (hurt done.hits) done.rows }

-- a health that has come to 0
abbrev pub is_spent : Option ℤ → Bool
is_spent None = false
is_spent (Some health) = int_le health (pos 0)

-- every row with health 0 is removed
abbrev pub gone : State → State
gone state = fold (λ s id. removed id s) state (map id_of (filter (λ row. is_spent row.health) state.rows))

-- the entities of the match file are made one by one, with ids from 2
abbrev pub first_state : Setup → State
first_state setup =
    fold (λ s (first : First). created setup s first.template first.at first.owner) (record { turn = 0; next = 2; word = setup.seed; rows = [] }) setup.first

-- one turn more was played
abbrev pub ticked : State → State
ticked state = record state { turn = state.turn + 1 }

-- the commands in order, and then the phases
abbrev pub turn : Setup → State → List PlayerCommand → State
turn setup state orders = ticked (gone (hit setup (moved setup (aimed setup (fold (commanded setup) state orders)))))

-- something that happened to a match: a turn with its commands, or an entity's health bent
pub data Item : Type 0 where
  Turn : List PlayerCommand → Item
  Bend : ℕ → ℤ → Item

-- what happened, the newest first
abbrev pub Past : Type 0
Past = List Item

-- a health from 1 to the greatest of a row that has health
abbrev pub is_health_of : ℤ → Option ℤ → Option ℤ → Bool
is_health_of health (Some old) (Some most) = int_le (pos 1) health && int_le health most
is_health_of health (Some old) None = false
is_health_of health None most = false

-- a bend is enabled where the entity is alive with health, and may have the new one
abbrev pub may_bend : Setup → ℤ → Option Row → Bool
may_bend setup health None = false
may_bend setup health (Some row) = is_health_of health row.health (option_and_then (λ (t : Template). t.health) (template_of setup row))

-- the state with a row's health set, where it may be; else as it is
abbrev pub bent : Setup → State → ℕ → ℤ → State
bent setup state id health = if may_bend setup health (row_of state id) then with_row id (λ row. record row { health = Some health }) state else state

-- the state after one item of a past
abbrev pub happened : Setup → State → Item → State
happened setup state (Turn orders) = turn setup state orders
happened setup state (Bend id health) = bent setup state id health

-- a state after what happened since
abbrev pub from : Setup → State → Past → State
from setup state [] = state
from setup state (item ∷ past) = happened setup (from setup state past) item

-- the state after a past, from the first state of the match
abbrev pub after : Setup → Past → State
after setup = from setup (first_state setup)

-- how many turns a past has
abbrev pub turns_in : Past → ℕ
turns_in [] = 0
turns_in (Turn orders ∷ past) = suc (turns_in past)
turns_in (Bend id health ∷ past) = turns_in past

-- the commands of a list that are given in a turn, in its order
abbrev pub orders_at : ℕ → List Timed → List PlayerCommand
orders_at t timeds = map (λ (timed : Timed). timed.order) (filter (λ (timed : Timed). timed.turn == t) timeds)

-- so many turns of the match file above a turn
abbrev pub own_turns : Setup → ℕ → ℕ → Past
own_turns setup start zero = []
own_turns setup start (suc n) = Turn (orders_at (start + suc n) setup.commands) ∷ own_turns setup start n
