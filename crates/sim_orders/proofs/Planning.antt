-- The plan of a command is what a planner has to answer.
use Rattle.sim_orders.proofs.Common.{ap, arith, Attack, Bool, Cell, centre_of, Change, Command, command_is_own, command_is_planned, command_plan_by, cond}
use Rattle.sim_orders.proofs.Common.{cond-true, Create, Delete, filter, flat_map, Fulfils, has_room, id_of, IfOk, is_ordered, IsGiven, IsPermutation, IsPlanned}
use Rattle.sim_orders.proofs.Common.{kind_of, List, map, of_answer, option_and_then, ordered_changes, OutOfMemory, Place, place_changes, plan_for}
use Rattle.sim_orders.proofs.Common.{PlayerCommand, refl, Remove, Resign, Result, Row, row_of, Setup, slice_get, Some, spot, spot_for, State, Stop, subst, sym}
use Rattle.sim_orders.proofs.{Common.{Task, template_of, Train, train_changes, trains, true, Walk, ℕ, [], ◌&&◌, ◌==◌, ◌∙◌, ◌∷◌, ◌≡◌}, Halves.sorted_order}

-- changes that are those of the plan of the task's command are as they have to be
pub plan_is_planned : (kind : ℕ) (task : Task) (changes : List Change) → IsGiven kind task → changes ≡ plan_for task task.command.now →
    IsPlanned task.setup.now task.state.now task.player task.command.now changes
plan_is_planned kind task changes given is =
    let order : PlayerCommand = record { player = task.player; command = task.command.now } in
    subst (IsPlanned task.setup.now task.state.now task.player task.command.now) (sym is)
    (record {
      plan = command_is_planned task.setup.now task.state.now order given.limits given.player_is given.valid;
      own = command_is_own task.setup.now task.state.now order given.limits given.player_is given.valid;
    })

-- the same of an answer to the command, by whatever name it has
pub plan_fulfils : (kind : ℕ) (task : Task) (command : Command) (result : Result (List Change) OutOfMemory) → IsGiven kind task → task.command.now ≡ command →
    IfOk result (λ changes. changes ≡ plan_for task command) → Fulfils task result
plan_fulfils kind task command result given is answered =
    λ changes e. plan_is_planned kind task changes given (of_answer _ result changes e answered ∙ ap (plan_for task) (sym is))

-- the changes of the rows that are ordered by sorted ids are those of the ids
pub sorted_changes : (player : ℕ) (ids sorted : List ℕ) (f : Row → List Change) (rows : List Row) (state : State) → IsPermutation ids sorted
    → rows ≡ state.rows →
    flat_map (λ row. cond (is_ordered player sorted row) (f row) []) rows ≡ ordered_changes player ids f state
sorted_changes player ids sorted f rows state p rows_are =
    ap (λ (test : Row → Bool). flat_map (λ row. cond (test row) (f row) []) rows) (sorted_order player ids sorted p) ∙
    ap (flat_map (λ row. cond (is_ordered player ids row) (f row) [])) rows_are

-- and so it is with rows that leave
pub sorted_removals : (player : ℕ) (ids sorted : List ℕ) (rows : List Row) (state : State) → IsPermutation ids sorted → rows ≡ state.rows →
    map (λ id. Remove id) (map id_of (filter (is_ordered player sorted) rows))
    ≡ map (λ id. Remove id) (map id_of (filter (is_ordered player ids) state.rows))
sorted_removals player ids sorted rows state p rows_are =
    ap (λ (test : Row → Bool). map (λ id. Remove id) (map id_of (filter test rows))) (sorted_order player ids sorted p) ∙
    ap (λ (rs : List Row). map (λ id. Remove id) (map id_of (filter (is_ordered player ids) rs))) rows_are

-- changes that are some list are another one that is the same
pub answers_same : (result : Result (List Change) OutOfMemory) (one other : List Change) → one ≡ other → IfOk result (λ changes. changes ≡ one) →
    IfOk result (λ changes. changes ≡ other)
answers_same result one other same = subst (λ (plan : List Change). IfOk result (λ changes. changes ≡ plan)) same

-- the one command of the last kind
pub resigns : (command : Command) → kind_of command ≡ 7 → command ≡ Resign
resigns (Walk ids to) e = absurd (omega (arith, e))
resigns (Stop ids) e = absurd (omega (arith, e))
resigns (Attack ids target) e = absurd (omega (arith, e))
resigns (Delete ids) e = absurd (omega (arith, e))
resigns (Place template at) e = absurd (omega (arith, e))
resigns (Train building template) e = absurd (omega (arith, e))
resigns Resign e = refl

-- a building that may train makes a row in the middle of its spot
pub train_there : (setup : Setup) (state : State) (player number building : ℕ) (row : Row) (cell : Cell) → row_of state building ≡ Some row →
    (row.owner == player && trains (template_of setup row) number (slice_get setup.templates number) && has_room setup state player) ≡ true →
    spot_for setup state (Train building number) ≡ Some cell → command_plan_by setup state player (Train building number) ≡ Create number (centre_of cell)
    player ∷ []
train_there setup state player number building row cell found_is may spot_is =
    let here : spot setup state row.at ≡ Some cell = ap (option_and_then (λ (r : Row). spot setup state r.at)) (sym found_is) ∙ spot_is in
    ap (train_changes setup state player number) found_is ∙ cond-true _ (place_changes player number (spot setup state row.at)) [] may ∙
    ap (place_changes player number) here

-- what is given with a command of one kind is so with its own
pub of_kind : (kind : ℕ) (task : Task) → IsGiven kind task → IsGiven (kind_of task.command.now) task
of_kind kind task given = record {
  limits = given.limits;
  valid = given.valid;
  player_is = given.player_is;
  help_is = given.help_is;
  kind_is = refl;
}
