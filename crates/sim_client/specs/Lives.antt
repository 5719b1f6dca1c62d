-- A client that has a state in place of a past: what it is, and what a step or a message that it hears makes of it. Messages carry the
-- bytes of states.
use Rattle.sim_plain.specs.declared.message.DownOf.TheVariants as down
use Rattle.sim_plain.specs.declared.message.UpOf.TheVariants as up
use Rattle.sim_base.specs.declared.step.Event.TheVariants as event
use Rattle.sim_plain_session.specs.Clients as plain
use Rattle.sim_base.specs.declared.{command.Command.Command, command.PlayerCommand.PlayerCommand, setup.Setup.Setup, state.State.State, step.Event.Event}
use Rattle.sim_base.specs.{Rows.row_of, Spelling.digest, Spelling.mark, Spelling.spelling, Turn.after, Turn.bent, Turn.first_state, Turn.may_bend, Turn.turn}
use Rattle.sim_plain.specs.{Messages.carry_down, Messages.carry_up, Server.put, declared.message.DownOf.DownOf, declared.message.UpOf.UpOf}
use Rattle.sim_plain_session.specs.{Pasts.is_client, Players.IsPlayerOf, Players.Player, Sessions.spelled}
use Rattle.std.specs.Prelude.{[], Bool, if◌then◌else◌, List, map, min, nat_lt, None, Option, Some, suc, ℕ, ℤ, ◌&&◌, ◌++◌, ◌+◌, ◌==◌, ◌∷◌, ◌≡◌}

-- what a client says
abbrev pub Said : Type 0
Said = UpOf (List ℕ)

-- what it is told
abbrev pub Told : Type 0
Told = DownOf (List ℕ)

-- a client is off, waits for a state, or is on
pub data Life : Type 0 where
  Off : Life
  Joining : Life
  On : Player → Life

-- what a client becomes, and what it says
pub record Act : Type 0 where
  pub life : Life
  pub says : List Said

-- a client that begins at a state knows of no command, and has given none
abbrev pub begins : State → ℕ → ℕ → Life
begins state released done = On (record { state = state; known = λ t. []; released = released; done = done; orders = 0 })

-- one that takes part from the beginning: the turns up to the delay are released, and it is done with its commands for them
abbrev pub starts : Setup → Life
starts setup = begins (first_state setup) (min setup.turns setup.delay) (min setup.turns setup.delay)

-- ---- a client wishes to join

-- one that is off asks the server
abbrev pub joins : Life → Option Act
joins Off = Some (record { life = Joining; says = up.Join ∷ [] })
joins Joining = None
joins (On player) = None

-- ---- a client gives a command

-- the turn behind its done is one of the match, and it has given fewer than 64 for it
abbrev pub may_order : Setup → Player → Bool
may_order setup player = nat_lt player.done setup.turns && nat_lt player.orders 64

-- the command goes up, for that turn
abbrev pub ordered : Command → Player → Act
ordered command player = record { life = On (record player { orders = suc player.orders }); says = up.Command (suc player.done) command ∷ [] }

-- a client that is on gives a command, where it may
abbrev pub orders : Setup → Command → Life → Option Act
orders setup command Off = None
orders setup command Joining = None
orders setup command (On player) = if may_order setup player then Some (ordered command player) else None

-- ---- a client plays a turn

-- the next turn is one of the match, and known to be released
abbrev pub may_play : Setup → Player → Bool
may_play setup player = nat_lt player.state.turn setup.turns && nat_lt player.state.turn player.released

-- the next turn is played with the commands that are known of it, and these are forgotten
abbrev pub played : Setup → Player → Player
played setup player = record player
    { state = turn setup player.state (player.known (suc player.state.turn)); known = put (suc player.state.turn) [] player.known }

-- it may be done with one turn more
abbrev pub may_tell_done : Setup → Player → Bool
may_tell_done setup player = nat_lt player.done (min setup.turns (player.state.turn + setup.delay))

-- the report of its turn
abbrev pub report_of : Setup → Player → Said
report_of setup player = up.Report player.state.turn (mark setup player.state)

-- a report goes up, and behind it a done; the commands that it gives are counted anew
abbrev pub told_with_done : Setup → Player → Act
told_with_done setup player =
    record { life = On (record player { done = suc player.done; orders = 0 }); says = report_of setup player ∷ up.Done (suc player.done) ∷ [] }

-- a report goes up alone
abbrev pub told_alone : Setup → Player → Act
told_alone setup player = record { life = On player; says = report_of setup player ∷ [] }

-- a turn that was played is told
abbrev pub told : Setup → Player → Act
told setup player = if may_tell_done setup player then told_with_done setup player else told_alone setup player

-- a client that is on plays the next turn and tells it, where it may
abbrev pub plays : Setup → Life → Option Act
plays setup Off = None
plays setup Joining = None
plays setup (On player) = if may_play setup player then Some (told setup (played setup player)) else None

-- ---- the health of an entity is bent, and nothing is said

-- the health is set, where the entity may have it
abbrev pub bends : Setup → ℕ → ℤ → Life → Option Act
bends setup id health Off = None
bends setup id health Joining = None
bends setup id health (On player) =
    if may_bend setup health (row_of player.state id) then Some (record { life = On (record player { state = bent setup player.state id health }); says = [] })
    else None

-- ---- a client hears a message

-- it hands on its state for another
abbrev pub hands_on : Setup → ℕ → Player → Act
hands_on setup client player = record { life = On player; says = up.State client player.state.turn (spelling setup player.state) ∷ [] }

-- a command of a turn that it has not played is known from now on
abbrev pub learns : Setup → ℕ → PlayerCommand → Player → Option Act
learns setup t order player =
    if nat_lt player.state.turn t && is_client setup order.player
    then Some (record { life = On (record player { known = put t (player.known t ++ order ∷ []) player.known }); says = [] })
    else None

-- more turns are released
abbrev pub releases : ℕ → Player → Option Act
releases t player = if nat_lt player.released t then Some (record { life = On (record player { released = t }); says = [] }) else None

-- it is on at a state that was loaded, and the turns up to that state are those that it knows to be released
abbrev pub loads : ℕ → Option State → Option Act
loads done None = None
loads done (Some state) = Some (record { life = begins state state.turn done; says = [] })

-- nobody was there to ask, so it is off again
abbrev pub refused : ℕ → Option Act
refused code = if code == 4 then Some (record { life = Off; says = [] }) else None

-- what a message makes of a client, where the bytes in it load as this state, if any. Every other message has no effect.
abbrev pub hears : Setup → Option State → Told → Life → Option Act
hears setup loaded said Off = None
hears setup loaded (down.Ask client) Joining = None
hears setup loaded (down.State done bytes) Joining = loads done loaded
hears setup loaded (down.Command t order) Joining = None
hears setup loaded (down.Release t) Joining = None
hears setup loaded (down.Notice t client) Joining = None
hears setup loaded (down.Refused code) Joining = refused code
hears setup loaded (down.Ask client) (On player) = Some (hands_on setup client player)
hears setup loaded (down.State done bytes) (On player) = None
hears setup loaded (down.Command t order) (On player) = learns setup t order player
hears setup loaded (down.Release t) (On player) = releases t player
hears setup loaded (down.Notice t client) (On player) = None
hears setup loaded (down.Refused code) (On player) = None

-- A client that has a state follows one that has a past: through each step and each message it stands for it, says the same, and
-- what is printed can be seen of it.

-- a client that has a state stands for one that has a past
abbrev pub Lives : Setup → Life → plain.Phase → Type 0
Lives setup Off plain.Off = Unit {0}
Lives setup Off plain.Joining = ⊥
Lives setup Off (plain.On seat) = ⊥
Lives setup Joining plain.Off = ⊥
Lives setup Joining plain.Joining = Unit {0}
Lives setup Joining (plain.On seat) = ⊥
Lives setup (On player) plain.Off = ⊥
Lives setup (On player) plain.Joining = ⊥
Lives setup (On player) (plain.On seat) = IsPlayerOf setup player seat

-- what it is after that, if anything happened
abbrev pub life_after : Option Act → Life → Life
life_after None life = life
life_after (Some act) life = act.life

-- what it said
abbrev pub says_of : Option Act → List Said
says_of None = []
says_of (Some act) = act.says

-- it stands for the other after that, said the same, and this is printed
pub record Follows (setup : Setup) (old : Life) (act : Option Act) (shown : List Event) (acted : plain.Acted) : Type 0 where
  pub lives : Lives setup (life_after act old) acted.phase
  pub said : says_of act ≡ map (carry_up (spelled setup)) acted.says
  pub printed : shown ≡ acted.events

-- ---- what is printed, as it is seen of a client

-- the turn and the digest of a client that is on
abbrev pub shows : Setup → (ℕ → List ℕ → Event) → Life → List Event
shows setup make Off = []
shows setup make Joining = []
shows setup make (On player) = make player.state.turn (digest setup player.state) ∷ []

-- the same, where something happened
abbrev pub shows_after : Setup → (ℕ → List ℕ → Event) → Option Act → List Event
shows_after setup make None = []
shows_after setup make (Some act) = shows setup make act.life

-- the turn for which a command went up
abbrev pub order_shown : ℕ → List Said → List Event
order_shown c [] = []
order_shown c (up.Join ∷ rest) = []
order_shown c (up.Command turn command ∷ rest) = event.Order c turn ∷ []
order_shown c (up.Done turn ∷ rest) = []
order_shown c (up.Report turn hash ∷ rest) = []
order_shown c (up.State client turn bytes ∷ rest) = []

-- that it wished to join
abbrev pub join_shown : ℕ → Option Act → List Event
join_shown c None = []
join_shown c (Some act) = event.Join c ∷ []

-- a state that was loaded, and each refusal that was heard
abbrev pub hearing_shown : Setup → ℕ → Told → Option Act → List Event
hearing_shown setup c (down.Ask client) act = []
hearing_shown setup c (down.State done bytes) act = shows_after setup (event.Load c) act
hearing_shown setup c (down.Command turn order) act = []
hearing_shown setup c (down.Release turn) act = []
hearing_shown setup c (down.Notice turn client) act = []
hearing_shown setup c (down.Refused code) act = event.Refused c code ∷ []

-- ---- the laws

-- one that takes part from the beginning stands for one with the empty past
abbrev pub StartingFollows : Type 0
StartingFollows = (setup : Setup) → Lives setup (starts setup) (plain.On (plain.begun (min setup.turns setup.delay) (min setup.turns setup.delay) []))

abbrev pub JoiningFollows : Type 0
JoiningFollows =
    (setup : Setup) (c : ℕ) (life : Life) (phase : plain.Phase) → Lives setup life phase → Follows setup life (joins life) (join_shown c (joins life))
    (plain.joins c phase)

abbrev pub OrderingFollows : Type 0
OrderingFollows =
    (setup : Setup) (c : ℕ) (command : Command) (life : Life) (phase : plain.Phase) → Lives setup life phase
    → Follows setup life (orders setup command life) (order_shown c (says_of (orders setup command life))) (plain.orders setup c command phase)

abbrev pub PlayingFollows : Type 0
PlayingFollows =
    (setup : Setup) (c : ℕ) (life : Life) (phase : plain.Phase) → Lives setup life phase
    → Follows setup life (plays setup life) (shows_after setup (event.Play c) (plays setup life)) (plain.plays setup c phase)

abbrev pub BendingFollows : Type 0
BendingFollows =
    (setup : Setup) (c id : ℕ) (health : ℤ) (life : Life) (phase : plain.Phase) → Lives setup life phase
    → Follows setup life (bends setup id health life) (shows_after setup (event.Bend c) (bends setup id health life)) (plain.bends setup c id health phase)

-- what is loaded of a message that carries a past is the state after it
abbrev pub LoadsAs : Setup → Option State → plain.Phase → plain.Down → Type 0
LoadsAs setup loaded plain.Off said = Unit {0}
LoadsAs setup loaded (plain.On seat) said = Unit {0}
LoadsAs setup loaded plain.Joining (down.Ask client) = Unit {0}
LoadsAs setup loaded plain.Joining (down.State done past) = loaded ≡ Some (after setup past)
LoadsAs setup loaded plain.Joining (down.Command turn order) = Unit {0}
LoadsAs setup loaded plain.Joining (down.Release turn) = Unit {0}
LoadsAs setup loaded plain.Joining (down.Notice turn client) = Unit {0}
LoadsAs setup loaded plain.Joining (down.Refused code) = Unit {0}

abbrev pub HearingFollows : Type 0
HearingFollows =
    (setup : Setup) (c : ℕ) (loaded : Option State) (said : plain.Down) (life : Life) (phase : plain.Phase) → Lives setup life phase
    → LoadsAs setup loaded phase said
    → (let heard = hears setup loaded (carry_down (spelled setup) said) life in
    Follows setup life heard (hearing_shown setup c (carry_down (spelled setup) said) heard) (plain.hears setup c phase said))
