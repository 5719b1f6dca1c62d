-- What a client keeps beside its board, and what it is with that board. Members of systems are passed as in the words of boards.
use Rattle.sim_client.specs.declared.stage.Stage.TheVariants as stage
use Rattle.sim_base.specs.{declared.{command.PlayerCommand.PlayerCommand, setup.Setup.Setup, state.State.State}, Limits.{IsFrom, IsSetup, IsValid}}
use Rattle.sim_board.specs.{Boards.IsWholeBy, declared.board.Board.Board}
use Rattle.{sim_client.specs.{declared.{known.Known.Known, stage.{Seat.Seat, Stage.Stage}}, Lives.{Joining, Life, Off, On}}, sim_laws.specs.TurnLaws.IsOrderOf}
use Rattle.{sim_plain_session.specs.Players.Player, sim_system.specs.declared.{kind.Kind.TheVariants.Ground, system.System.Ghosts}}
use Rattle.sim_system.specs.{Meanings.{AreFed, four, HaveKinds, Meaning, Systems}, RigWords.systems_by}
use Rattle.std.specs.{BTreeMap.get, Ordering.nat_cmp, Prelude.{All, List, None, Option, Some, unwrap_or, ℕ, [], ◌≡◌}}

-- What is known of a turn.

-- the commands of a turn
abbrev pub known_in : Known → ℕ → List PlayerCommand
known_in known t = unwrap_or (get nat_cmp known.by_turn t) []

-- players of the match gave the commands of each turn
abbrev pub AreByPlayers : Setup → Known → Type 0
AreByPlayers setup known = (t : ℕ) → All (IsOrderOf setup) (known_in known t)

-- a seat beside a state
abbrev pub player_at : State → Seat → Player
player_at state seat = record { state = state; known = known_in seat.known; released = seat.released; done = seat.done; orders = seat.orders }

-- what a client is that is at this stage with this board; it is never on without one
abbrev pub life_at : {X : Type 0} {F : X → Type 0} → Stage → Option (Board X F) → Life
life_at stage.Off board = Off
life_at stage.Joining board = Joining
life_at (stage.On seat) None = Off
life_at (stage.On seat) (Some board) = On (player_at board.state seat)

-- no system is in its place
abbrev pub nowhere : Systems
nowhere = let no : Meaning = record { kind = Ground; land = None; facts = []; rebuilds = 0 } in four no no no no

-- the systems of a board, if there is one
abbrev pub systems_on : {X : Type 0} {F : X → Type 0} → Option (Board X F) → ((i : X) → F i → Meaning) → Systems
systems_on None meaning = nowhere
systems_on (Some board) meaning = systems_by board.rig meaning

-- a system has forgotten all
pub record IsCleared (m : Meaning) : Type 0 where
  pub land : m.land ≡ None
  pub facts : m.facts ≡ []

-- all four have
pub record AreCleared (s : Systems) : Type 0 where
  pub ground : IsCleared s.ground
  pub range : IsCleared s.range
  pub watch : IsCleared s.watch
  pub census : IsCleared s.census

-- systems stand for the state of a client that is on, and have forgotten all where it is not
abbrev pub AreOf : Setup → Life → Systems → Type 0
AreOf setup Off s = AreCleared s
AreOf setup Joining s = AreCleared s
AreOf setup (On player) s = AreFed setup player.state s

-- the board of a client that is not on
pub record IsRestingBy {X : Type 0} {F : X → Type 0} (setup : Setup) (board : Board X F) (meaning : (i : X) → F i → Meaning) : Type 0 where
  pub same : board.setup.now ≡ setup
  pub kinds : HaveKinds (systems_by board.rig meaning)
  pub cleared : AreCleared (systems_by board.rig meaning)

-- the board of one that is on is whole, its state is valid, and players of the match gave the commands that are known
pub record IsPlayingBy {X : Type 0} {F : X → Type 0} (setup : Setup) (board : Board X F) (seat : Seat) (meaning : (i : X) → F i → Meaning) : Type 0 where
  pub same : board.setup.now ≡ setup
  pub whole : IsWholeBy board meaning
  pub valid : IsValid setup board.state
  pub known : AreByPlayers setup seat.known

-- the same two, as a clause has them
abbrev pub IsResting : {X : Type 0} {F : X → Type 0} → Setup → Board X F → ((i : X) → Ghosts (F i)) → Type 0
IsResting setup board sys = IsRestingBy setup board (λ i v. (sys i).meaning v)

abbrev pub IsPlaying : {X : Type 0} {F : X → Type 0} → Setup → Board X F → Seat → ((i : X) → Ghosts (F i)) → Type 0
IsPlaying setup board seat sys = IsPlayingBy setup board seat (λ i v. (sys i).meaning v)

-- the board is as the stage asks
abbrev pub IsReady : {X : Type 0} {F : X → Type 0} → Setup → Stage → Option (Board X F) → ((i : X) → F i → Meaning) → Type 0
IsReady setup stage.Off None meaning = ⊥
IsReady setup stage.Joining None meaning = ⊥
IsReady setup (stage.On seat) None meaning = ⊥
IsReady setup stage.Off (Some board) meaning = IsRestingBy setup board meaning
IsReady setup stage.Joining (Some board) meaning = IsRestingBy setup board meaning
IsReady setup (stage.On seat) (Some board) meaning = IsPlayingBy setup board seat meaning

-- the match is within its limits, the number is a player's, and the board is as the stage asks
pub record IsSoundAt {X : Type 0} {F : X → Type 0} (setup : Setup) (number : ℕ) (at : Stage) (board : Option (Board X F)) (meaning : (i : X) → F i → Meaning) :
    Type 0 where
  pub limits : IsSetup setup
  pub number_is : IsFrom 1 setup.players number
  pub ready : IsReady setup at board meaning
