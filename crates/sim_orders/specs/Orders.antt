-- What a planner of commands may be asked, and what it has to answer. All of it is plain data, and knows of no boxes.
use Rattle.sim_base.specs.{Commands.{commanded_by, is_enemy, is_placeable, population, spot}, declared.change.Change.Change}
use Rattle.sim_base.specs.declared.{command.Command.{Command, TheVariants.{Attack, Delete, Place, Resign, Stop, Train, Walk}}, memory.OutOfMemory.OutOfMemory}
use Rattle.sim_base.specs.{declared.{place.Cell.Cell, setup.Setup.Setup, state.{Row.Row, State.State}}, Limits.{IsFrom, IsLooselyValid, IsSetup}}
use Rattle.{sim_base.specs.{Places.is_inside, Rows.{row_of, size_of}}, sim_orders.specs.declared.{help.Help.Help, task.Task.Task}}
use Rattle.sim_plans.{proofs.Applying.{all_own_prop, plan_prop}, specs.Plans.{command_plan_by, IsOwnChange, IsPlanOf}}
use Rattle.std.specs.{Prelude.{All, Bool, false, List, None, Option, option_and_then, Result, slice_get, ℕ, [], ◌==◌, ◌≡◌}, Result.ForOk}
use mathlib.Core.HLevel.{Π_prop}

-- What a planner of commands is told of the systems' answers.

-- whether the command places something where it may stand
abbrev pub is_free_for : Setup → State → Command → Bool
is_free_for setup state (Walk ids p) = false
is_free_for setup state (Stop ids) = false
is_free_for setup state (Attack ids target) = false
is_free_for setup state (Delete ids) = false
is_free_for setup state (Place number p) = is_placeable setup state p (slice_get setup.templates number)
is_free_for setup state (Train building number) = false
is_free_for setup state Resign = false

-- where a building that trains would put a new row
abbrev pub spot_for : Setup → State → Command → Option Cell
spot_for setup state (Walk ids p) = None
spot_for setup state (Stop ids) = None
spot_for setup state (Attack ids target) = None
spot_for setup state (Delete ids) = None
spot_for setup state (Place number p) = None
spot_for setup state (Train building number) = option_and_then (λ (row : Row). spot setup state row.at) (row_of state building)
spot_for setup state Resign = None

-- the help is that of this state, player and command
pub record IsHelp (setup : Setup) (state : State) (player : ℕ) (command : Command) (help : Help) : Type 0 where
  pub count : help.count ≡ population state player
  pub free : help.free ≡ is_free_for setup state command
  pub spot : help.spot ≡ spot_for setup state command

-- the number of a command's kind
abbrev pub kind_of : Command → ℕ
kind_of (Walk ids to) = 1
kind_of (Stop ids) = 2
kind_of (Attack ids target) = 3
kind_of (Delete ids) = 4
kind_of (Place template at) = 5
kind_of (Train building template) = 6
kind_of Resign = 7

-- the command of the task is of this kind, and is given by a player of the match, in a state that is loosely valid, and the help is that of these
pub record IsGiven (kind : ℕ) (task : Task) : Type 0 where
  pub limits : IsSetup task.setup.now
  pub valid : IsLooselyValid task.setup.now task.state.now
  pub player_is : IsFrom 1 task.setup.now.players task.player
  pub help_is : IsHelp task.setup.now task.state.now task.player task.command.now task.help.now
  pub kind_is : kind_of task.command.now ≡ kind

-- the changes of a command for the player of the task, in its state
abbrev pub plan_for : Task → Command → List Change
plan_for task command = command_plan_by task.setup.now task.state.now task.player command

-- the changes fit in order and give the state after the command, and each names a live row of the player or makes one for him
pub record IsPlanned (setup : Setup) (state : State) (player : ℕ) (command : Command) (changes : List Change) : Type 0 where
  pub plan : IsPlanOf setup state changes (commanded_by setup state player command)
  pub own : All (IsOwnChange state player) changes

-- what is answered is planned so, or there was no memory
abbrev pub Obeys : Setup → State → ℕ → Command → Result (List Change) OutOfMemory → Type 0
Obeys setup state player command result = ForOk result (IsPlanned setup state player command)

-- so it is with the command of the task
abbrev pub Fulfils : Task → Result (List Change) OutOfMemory → Type 0
Fulfils task result = Obeys task.setup.now task.state.now task.player task.command.now result

-- Commands whose planners take no memory, since they change nothing and it is seen without any.

-- none of the rows is the player's
abbrev pub OwnsNone : ℕ → List Row → Type 0
OwnsNone player rows = All (λ row. (row.owner == player) ≡ false) rows

-- a walk to no point of the ground, an attack on nobody's enemy; a place or a train that makes no row; a player without rows who
-- resigns. The others sort the ids that they name first
abbrev pub NeedsNoMemory : Task → Command → Type 0
NeedsNoMemory task (Walk ids p) = is_inside (size_of task.setup.now.land) p ≡ false
NeedsNoMemory task (Stop ids) = ⊥
NeedsNoMemory task (Attack ids target) = is_enemy task.setup.now task.player (row_of task.state.now target) ≡ false
NeedsNoMemory task (Delete ids) = ⊥
NeedsNoMemory task (Place number p) = plan_for task (Place number p) ≡ []
NeedsNoMemory task (Train building number) = plan_for task (Train building number) ≡ []
NeedsNoMemory task Resign = OwnsNone task.player task.state.now.rows

-- no system is asked with memory for the help: only a building that is alive and trains has a spot, which is
abbrev pub NeedsNoSpot : State → Command → Type 0
NeedsNoSpot state (Walk ids p) = Unit {0}
NeedsNoSpot state (Stop ids) = Unit {0}
NeedsNoSpot state (Attack ids target) = Unit {0}
NeedsNoSpot state (Delete ids) = Unit {0}
NeedsNoSpot state (Place number p) = Unit {0}
NeedsNoSpot state (Train building number) = row_of state building ≡ None
NeedsNoSpot state Resign = Unit {0}

-- What is answered to a command is as it has to be in one way at most, so it may be kept beside a stored function.

-- of the changes
planned_prop : (setup : Setup) (state : State) (player : ℕ) (command : Command) (changes : List Change) → IsSetup setup → IsLooselyValid setup state →
    IsProp (IsPlanned setup state player command changes)
planned_prop setup state player command changes limits valid x y =
    λ i. record {
      plan = plan_prop setup state changes (commanded_by setup state player command) limits valid x.plan y.plan i;
      own = all_own_prop state player changes x.own y.own i;
    }

-- of the answer
pub fulfils_prop : {kind : ℕ} {task : Task} {result : Result (List Change) OutOfMemory} → IsGiven kind task → IsProp (Fulfils task result)
fulfils_prop {kind} {task} given =
    Π_prop (λ changes. Π_prop (λ e. planned_prop task.setup.now task.state.now task.player task.command.now changes given.limits given.valid))
