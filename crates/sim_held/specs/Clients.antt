-- What a client that is held is to its callers, and what a call makes of it.
use Rattle.sim_held.specs.declared.stage.Stage.TheVariants as stage
use Rattle.sim_held.specs.declared.stage.Went.TheVariants as went
use Rattle.sim_client.specs.declared.did.Did.TheVariants as did
use Rattle.sim_base.specs.declared.{command.{Command.Command, PlayerCommand.PlayerCommand}, memory.OutOfMemory.OutOfMemory, setup.Setup.Setup}
use Rattle.sim_base.specs.{declared.state.State.State, Limits.{IsFrom, IsSetup, IsValid}}
use Rattle.sim_client.specs.{ClientWords.{LoadsFrom, may_load, NeedsNoMemory, state_of}, declared.{did.Did.Did, stage.Seat.Seat}, Lives.Act}
use Rattle.sim_client.specs.{Lives.{hears, Joining, joins, Life, may_play, Off, On, orders, plays, Said, starts, Told}, StageWords.{AreByPlayers, player_at}}
use Rattle.sim_held.specs.declared.{playing.Playing.Playing, stage.{Stage.Stage, Went.Went}}
use Rattle.{sim_json.specs.{Commands.{command_of, next_or}, Values.{list_of, value_of}}, sim_laws.specs.TurnLaws.IsOrderOf}
use Rattle.{sim_wire.specs.{Memory.down_carries, Reading.{IsDownFrame, up_frame}}, std.specs.{List.flat_map, Prelude.{All, Bool, Err, false, IfOk}}}
use Rattle.std.specs.{Prelude.{if◌then◌else◌, IsOk, List, None, Ok, Option, option_map, Result, Some, suc, true, zero, ℕ, [], ◌++◌, ◌<◌, ◌≡◌, ◌≤◌}, Str.is_utf8}

-- a client: its match, the number of its player, whether it is off, joining or on, and the bytes that wait for the server
pub record ClientView : Type 0 where
  pub setup : Setup
  pub number : ℕ
  pub stage : Stage
  pub outbox : List ℕ

-- what a stage is in the words of a client of a session
abbrev pub life_at : Stage → Life
life_at stage.Off = Off
life_at stage.Joining = Joining
life_at (stage.On state seat) = On (player_at state seat)

-- what a client is
abbrev pub life : ClientView → Life
life client = life_at client.stage

-- the state of one that is on is valid, and players of the match gave the commands that it knows
pub record IsSeated (setup : Setup) (state : State) (seat : Seat) : Type 0 where
  pub valid : IsValid setup state
  pub known : AreByPlayers setup seat.known

-- a stage is sound
abbrev pub IsStage : Setup → Stage → Type 0
IsStage setup stage.Off = Unit {0}
IsStage setup stage.Joining = Unit {0}
IsStage setup (stage.On state seat) = IsSeated setup state seat

-- the match is within its limits, and the stage is sound
pub record IsPlaced (setup : Setup) (at : Stage) : Type 0 where
  pub limits : IsSetup setup
  pub stage : IsStage setup at

-- the match is within its limits, the number is a player's, and the stage is sound
pub record IsSound (setup : Setup) (number : ℕ) (at : Stage) : Type 0 where
  pub limits : IsSetup setup
  pub number_is : IsFrom 1 setup.players number
  pub stage : IsStage setup at

-- the frames of what is said, one behind another
abbrev pub frames_of : List Said → List ℕ
frames_of said = flat_map up_frame said

-- a client is as it was, and so is its outbox
abbrev pub Stays : Life → List ℕ → Life → List ℕ → Type 0
Stays life out life' out' = (life' ≡ life) × (out' ≡ out)

-- a client is off, and its outbox is empty
abbrev pub IsCut : Life → List ℕ → Type 0
IsCut life' out' = (life' ≡ Off) × (out' ≡ [])

-- a client becomes that, and the frames of what it says come behind its outbox
abbrev pub Acts : Act → List ℕ → Life → List ℕ → Type 0
Acts act out life' out' = (life' ≡ act.life) × (out' ≡ out ++ frames_of act.says)

-- a call answers Idle exactly where nothing happens, and else the client acts so; where memory was refused it is cut off
abbrev pub Steps : Option Act → Life → List ℕ → Result Went OutOfMemory → Life → List ℕ → Type 0
Steps None life out (Ok went.Refused) life' out' = ⊥
Steps None life out (Ok went.Idle) life' out' = Stays life out life' out'
Steps None life out (Ok went.Done) life' out' = ⊥
Steps None life out (Err e) life' out' = IsCut life' out'
Steps (Some act) life out (Ok went.Refused) life' out' = ⊥
Steps (Some act) life out (Ok went.Idle) life' out' = ⊥
Steps (Some act) life out (Ok went.Done) life' out' = Acts act out life' out'
Steps (Some act) life out (Err e) life' out' = IsCut life' out'

-- the same of what goes before, where nothing is said of memory
abbrev pub Goes : Option Act → Life → List ℕ → Result Went OutOfMemory → Life → List ℕ → Type 0
Goes None life out (Ok went.Refused) life' out' = ⊥
Goes None life out (Ok went.Idle) life' out' = Stays life out life' out'
Goes None life out (Ok went.Done) life' out' = ⊥
Goes None life out (Err e) life' out' = Unit {0}
Goes (Some act) life out (Ok went.Refused) life' out' = ⊥
Goes (Some act) life out (Ok went.Idle) life' out' = ⊥
Goes (Some act) life out (Ok went.Done) life' out' = Acts act out life' out'
Goes (Some act) life out (Err e) life' out' = Unit {0}

-- a call with bytes answers Refused exactly where they stand for nothing, and then nothing changes; else it steps
abbrev pub Takes : Option (Option Act) → Life → List ℕ → Result Went OutOfMemory → Life → List ℕ → Type 0
Takes None life out (Ok went.Refused) life' out' = Stays life out life' out'
Takes None life out (Ok went.Idle) life' out' = ⊥
Takes None life out (Ok went.Done) life' out' = ⊥
Takes None life out (Err e) life' out' = IsCut life' out'
Takes (Some act) life out result life' out' = Steps act life out result life' out'

-- the command that bytes spell: a list in JSON, the kind and what follows it
abbrev pub command_in : List ℕ → Option Command
command_in bytes = next_or (value_of bytes) None (λ d. next_or (list_of d) None command_of)

-- the match and the number are as they were
pub record IsSame (old new : ClientView) : Type 0 where
  pub setup : new.setup ≡ old.setup
  pub number : new.number ≡ old.number

-- the turns that one that is on knows to be released
abbrev pub released_of : Life → Option ℕ
released_of Off = None
released_of Joining = None
released_of (On player) = Some player.released

-- the turn up to which it is done with its commands
abbrev pub done_of : Life → Option ℕ
done_of Off = None
done_of Joining = None
done_of (On player) = Some player.done

-- there is a look where there is a state, and this holds of it
abbrev pub LooksAt : {X : Type 0} → Option State → (State → X → Type 0) → Option X → Type 0
LooksAt None Is None = Unit {0}
LooksAt None Is (Some look) = ⊥
LooksAt (Some state) Is None = ⊥
LooksAt (Some state) Is (Some look) = Is state look

-- a new client is the player's of this number, with nothing in its outbox, at the first state or off; or there is no such player
abbrev pub IsNew : Setup → ℕ → Bool → Option ClientView → Type 0
IsNew setup number begins None = IsFrom 1 setup.players number → ⊥
IsNew setup number begins (Some client) =
    (client.setup ≡ setup) × (client.number ≡ number) × (life client ≡ (if begins then starts setup else Off)) × (client.outbox ≡ [])

-- What the steps of a client are stated by.

-- what was said, if anything happened
abbrev pub said_by : Did → List Said
said_by did.Idle = []
said_by (did.Done ups) = ups

-- a client is on, and may play
abbrev pub may_run : Setup → Life → Bool
may_run setup Off = false
may_run setup Joining = false
may_run setup (On player) = may_play setup player

-- a client is on
abbrev pub IsOn : Stage → Type 0
IsOn stage.Off = ⊥
IsOn stage.Joining = ⊥
IsOn (stage.On state seat) = Unit {0}

-- a step of a client that says nothing
abbrev pub GoesSilently : Option Act → Life → Result Went OutOfMemory → Life → Type 0
GoesSilently None life (Ok went.Refused) life' = ⊥
GoesSilently None life (Ok went.Idle) life' = life' ≡ life
GoesSilently None life (Ok went.Done) life' = ⊥
GoesSilently None life (Err e) life' = Unit {0}
GoesSilently (Some act) life (Ok went.Refused) life' = ⊥
GoesSilently (Some act) life (Ok went.Idle) life' = ⊥
GoesSilently (Some act) life (Ok went.Done) life' = (life' ≡ act.life) × (act.says ≡ [])
GoesSilently (Some act) life (Err e) life' = Unit {0}

-- bytes stand for nothing, and nothing changes; or the client goes so
abbrev pub Heeds : Option (Option Act) → Life → List ℕ → Result Went OutOfMemory → Life → List ℕ → Type 0
Heeds None life out (Ok went.Refused) life' out' = Stays life out life' out'
Heeds None life out (Ok went.Idle) life' out' = ⊥
Heeds None life out (Ok went.Done) life' out' = ⊥
Heeds None life out (Err e) life' out' = Unit {0}
Heeds (Some act) life out result life' out' = Goes act life out result life' out'

-- A client that plays, apart from what is held.

-- what it is in the words of a client of a session
abbrev pub life_of : Playing → Life
life_of it = On (player_at it.state it.seat)

-- one that may play is taken out whole, and what stays is off, with nothing to be sent; any other stays as it is
abbrev pub TakesOut : Bool → Stage → List ℕ → Option Playing → Stage → List ℕ → Type 0
TakesOut may at out None at' out' = (may ≡ false) × (at' ≡ at) × (out' ≡ out)
TakesOut may at out (Some it) at' out' = (may ≡ true) × (at ≡ stage.On it.state it.seat) × (it.outbox ≡ out) × (at' ≡ stage.Off) × (out' ≡ [])

-- Several turns that a client plays one behind another.

-- what a client is after some turns, what it said of them, and how many they were
pub record Run : Type 0 where
  pub life : Life
  pub says : List Said
  pub turns : ℕ

-- a run goes on by a turn, if there is one
abbrev pub goes_on : Option Act → Run → Run
goes_on None run = run
goes_on (Some act) run = record { life = act.life; says = run.says ++ act.says; turns = suc run.turns }

-- a client plays at most so many turns, as long as the next one is released
abbrev pub runs : Setup → ℕ → Life → Run
runs setup zero life = record { life = life; says = []; turns = 0 }
runs setup (suc n) life = goes_on (plays setup (runs setup n life).life) (runs setup n life)

-- a call answers how many turns there were, and the client is what the run makes of it; where memory was refused it is cut off
abbrev pub Ran : Run → List ℕ → Result ℕ OutOfMemory → Life → List ℕ → Type 0
Ran run out (Ok turns) life' out' = (turns ≡ run.turns) × (life' ≡ run.life) × (out' ≡ out ++ frames_of run.says)
Ran run out (Err e) life' out' = IsCut life' out'

-- What a call makes of a client that is held, and what it answers.

-- it wishes to join
pub record Joins (old : ClientView) (answer : Result Went OutOfMemory) (new : ClientView) : Type 0 where
  pub steps : Steps (joins (life old)) (life old) old.outbox answer (life new) new.outbox
  pub idle : joins (life old) ≡ None → answer ≡ Ok went.Idle
  pub same : IsSame old new

-- it gives the command that bytes spell
pub record Orders (bytes : List ℕ) (old : ClientView) (answer : Result Went OutOfMemory) (new : ClientView) : Type 0 where
  pub takes : Takes (option_map (λ given. orders old.setup given (life old)) (command_in bytes)) (life old) old.outbox answer (life new) new.outbox
  pub no_text : is_utf8 bytes ≡ false → answer ≡ Ok went.Refused
  pub same : IsSame old new

-- it hears the frame of a message, or bytes that are none
pub record HearsFrame (bytes : List ℕ) (old : ClientView) (answer : Result Went OutOfMemory) (new : ClientView) : Type 0 where
  pub frame : (down : Told) → IsDownFrame bytes down → (loaded : Option State) → LoadsFrom old.setup down loaded
      → Steps (hears old.setup loaded down (life old)) (life old) old.outbox answer (life new) new.outbox
  pub other : ((down : Told) → IsDownFrame bytes down → ⊥) → (answer ≡ Ok went.Refused) × Stays (life old) old.outbox (life new) new.outbox
  pub sure : (down : Told) → IsDownFrame bytes down → NeedsNoMemory (life old) down → IsOk answer
  pub idle : (down : Told) → IsDownFrame bytes down → down_carries down ≡ false → may_load (life old) down ≡ false
      → hears old.setup None down (life old) ≡ None → IsOk answer
  pub same : IsSame old new

-- it plays turns that are released
pub record Plays (most : ℕ) (old : ClientView) (answer : Result ℕ OutOfMemory) (new : ClientView) : Type 0 where
  pub ran : Ran (runs old.setup most (life old)) old.outbox answer (life new) new.outbox
  pub none : may_run old.setup (life old) ≡ false → answer ≡ Ok 0
  pub zero : most ≡ 0 → answer ≡ Ok 0
  pub same : IsSame old new

-- it is cut off
pub record IsCutOff (old new : ClientView) : Type 0 where
  pub off : life new ≡ Off
  pub empty : new.outbox ≡ []
  pub same : IsSame old new

-- what a look at a client answers: this holds of it, and that there is no state is said where there is none, for which no memory is wanted
pub record LooksAtClient {X : Type 0} (Is : Setup → State → X → Type 0) (client : ClientView) (answer : Result (Option X) OutOfMemory) : Type 0 where
  pub looks : IfOk answer (LooksAt (state_of (life client)) (Is client.setup))
  pub none : state_of (life client) ≡ None → answer ≡ Ok None

-- What a client on a board has come to, by what waits in its outbox.

-- a turn is played and told, or there is none and nothing changes
abbrev pub PlaysOnce : Option Act → Life → List ℕ → Bool → Life → List ℕ → Type 0
PlaysOnce None life out there life' out' = (there ≡ false) × Stays life out life' out'
PlaysOnce (Some act) life out there life' out' = (there ≡ true) × Acts act out life' out'

-- a run has come to this
pub record RanOn (run : Run) (out : List ℕ) (turns : ℕ) (life' : Life) (out' : List ℕ) : Type 0 where
  pub many : turns ≡ run.turns
  pub becomes : life' ≡ run.life
  pub adds : out' ≡ out ++ frames_of run.says

-- What is asked for, and what is answered, of turns on a board that is made for the call.

-- a match has the turns up to this one, behind a state of it
pub record CanReach (setup : Setup) (state : State) (until : ℕ) : Type 0 where
  pub limits : IsSetup setup
  pub valid : IsValid setup state
  pub ahead : state.turn ≤ until
  pub within : until ≤ setup.turns

-- a client has a state of a match, and knows commands of its players
pub record CanPlay (setup : Setup) (playing : Playing) : Type 0 where
  pub limits : IsSetup setup
  pub seated : IsSeated setup playing.state playing.seat

-- a state is the one that was asked for, and one of the match
pub record IsMade (setup : Setup) (wanted new : State) : Type 0 where
  pub state : new ≡ wanted
  pub valid : IsValid setup new

-- a client has come to what a run makes of it, and is as sound as before
pub record HasRun (setup : Setup) (run : Run) (old : Playing) (turns : ℕ) (new : Playing) : Type 0 where
  pub ran : RanOn run old.outbox turns (life_of new) new.outbox
  pub seated : IsSeated setup new.state new.seat
