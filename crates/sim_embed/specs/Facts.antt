-- The numbers of a match, and a row of a state as a record of plain numbers.
use Rattle.sim_base.specs.declared.{command.PlayerCommand.PlayerCommand, place.Point.Point, setup.Setup.Setup}
use Rattle.sim_base.specs.{declared.state.{Aim.Aim, Motion.{Motion, TheVariants.{Going, Still}}, Row.Row, State.State}, Limits.{IsSetup, IsValid}}
use Rattle.{sim_base.specs.{Spelling.{digest, spelling}, Turn.{first_state, turn}}, sim_diff.specs.{declared.place.Place.Place, Difference.difference_of}}
use Rattle.sim_embed.specs.{Bytes.{OfMatch, OfState}, Causes.orders_of, declared.{plain.{Entity.Entity, Facts.Facts}, stored.{Stamp.Stamp, Stored.Stored}}}
use Rattle.sim_laws.specs.TurnLaws.{IsOrderOf}
use Rattle.std.specs.Prelude.{All, Bool, false, if◌then◌else◌, length, List, min, None, Ok, Option, pos, Some, true, ℕ, ℤ, ◌<◌, ◌≡◌}

-- a number in 32 bits, or the greatest such
abbrev pub in_32_bits : ℕ → ℕ
in_32_bits n = min n 4294967295

-- the numbers of a match
abbrev pub facts_of : Setup → Facts
facts_of setup =
    record {
      width = setup.land.width;
      depth = setup.land.depth;
      players = setup.players;
      turns = setup.turns;
      delay = setup.delay;
      cap = setup.cap;
      templates = length setup.templates;
      entities = length setup.first;
      commands = in_32_bits (length setup.commands);
    }

-- the health, or 0
abbrev pub health_of : Option ℤ → ℤ
health_of None = pos 0
health_of (Some health) = health

-- whether it is going
abbrev pub is_going : Option Motion → Bool
is_going None = false
is_going (Some Still) = false
is_going (Some (Going goal way whole)) = true

-- the goal of a motion, or where the row stands
abbrev pub goal_of : Option Motion → Point → Point
goal_of None at = at
goal_of (Some Still) at = at
goal_of (Some (Going goal way whole)) at = goal

-- the aim, or one at nobody
abbrev pub aim_of : Option Aim → Aim
aim_of None = record { target = 0; cooldown = 0; hold = false }
aim_of (Some aim) = aim

-- 1 for what holds
abbrev pub one_if : Bool → ℕ
one_if b = if b then 1 else 0

-- a row as plain numbers
unfoldable pub entity_of : Row → Entity
entity_of row =
    let goal = goal_of row.motion row.at in
    let aim = aim_of row.attack in
    record {
      id = row.id;
      kind = row.template;
      owner = row.owner;
      x = row.at.x;
      z = row.at.z;
      health = health_of row.health;
      going = one_if (is_going row.motion);
      goal_x = goal.x;
      goal_z = goal.z;
      target = aim.target;
      holds = one_if aim.hold;
    }

-- What is answered of the match, the states and the commands that bytes stand for.

-- a match has a turn behind a state of it, and players of it gave these commands
pub record CanTurn (setup : Setup) (state : State) (commands : List PlayerCommand) : Type 0 where
  pub limits : IsSetup setup
  pub valid : IsValid setup state
  pub below : state.turn < setup.turns
  pub players : All (IsOrderOf setup) commands

-- what is stored are the bytes of the state, and their digest
pub record IsStored (setup : Setup) (state : State) (stored : Stored) : Type 0 where
  pub bytes : stored.bytes.items ≡ spelling setup state
  pub digest : stored.digest ≡ digest setup state

-- the digest of the state, and its turn
pub record IsStamp (setup : Setup) (state : State) (stamp : Stamp) : Type 0 where
  pub digest : stamp.digest ≡ digest setup state
  pub turn : stamp.turn ≡ state.turn

-- the first state of the match is stored
abbrev pub StoresFirst : List ℕ → Stored → Type 0
StoresFirst game stored = OfMatch game (λ setup. IsStored setup (first_state setup) stored)

-- the match has a turn behind the old state; the state behind that turn is stored, the commands being those that bytes spell
abbrev pub StoresTurn : List ℕ → List ℕ → List ℕ → Stored → Type 0
StoresTurn game old commands stored = OfState game old (λ setup state. (state.turn < setup.turns) ×
    ((orders : List PlayerCommand) × (orders_of setup.players commands ≡ Ok orders) × IsStored setup (turn setup state orders) stored))

-- the least place at which two states differ, if there is one
abbrev pub IsDifference : Option Place → State → State → Type 0
IsDifference place left right = place ≡ difference_of left right
