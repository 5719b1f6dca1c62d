-- A client alone: what it is, and what a step or a message that it hears makes of it. A message carries a past in place of bytes.
use Rattle.std.specs.Prelude.{ℕ, suc, ◌+◌, min, max, Bool, ◌&&◌, List, [], ◌∷◌, ◌++◌, ℤ, if◌then◌else◌, nat_lt, ◌==◌}
use Rattle.sim_plain_session.specs.{Common.turns_in, Common.UpOf, Pasts.is_client}
use Rattle.sim_plain_session.specs.Common.{after, Bend, Command, digest, DownOf, Event, mark, may_bend, Past, PlayerCommand, put, row_of, Setup, State, Turn}
use Rattle.sim_base.specs.declared.step.Event.TheVariants as event
use Rattle.sim_plain.specs.declared.message.DownOf.TheVariants as down
use Rattle.sim_plain.specs.declared.message.UpOf.TheVariants as up

-- what a client says
abbrev pub Up : Type 0
Up = UpOf Past

-- what it is told
abbrev pub Down : Type 0
Down = DownOf Past

-- a client that is on: its past, the commands that it knows by turn, the turns that it knows to be released, the turns for which it is
-- done with its commands, and how many it has given since
pub record Seat : Type 0 where
  pub past : Past
  pub known : ℕ → List PlayerCommand
  pub released : ℕ
  pub done : ℕ
  pub orders : ℕ

-- a client is off, waits for a state, or is on
pub data Phase : Type 0 where
  Off : Phase
  Joining : Phase
  On : Seat → Phase

-- what a client becomes, what it says, and what is printed of it
pub record Acted : Type 0 where
  pub phase : Phase
  pub says : List Up
  pub events : List Event

-- nothing happens
abbrev pub idle : Phase → Acted
idle phase = record { phase = phase; says = []; events = [] }

-- the state of a client
abbrev pub state_of : Setup → Seat → State
state_of setup seat = after setup seat.past

-- the digest of its state
abbrev pub digest_of : Setup → Seat → List ℕ
digest_of setup seat = digest setup (state_of setup seat)

-- the mark of its state, which is the digest at some turns alone
abbrev pub mark_of : Setup → Seat → List ℕ
mark_of setup seat = mark setup (state_of setup seat)

-- a client with this past, which knows of no command
abbrev pub begun : ℕ → ℕ → Past → Seat
begun done released past = record { past = past; known = λ t. []; released = released; done = done; orders = 0 }

-- ---- a client gives a command

-- the turn behind its done is one of the match, and it has given fewer than 64 for it
abbrev pub may_order : Setup → Seat → Bool
may_order setup seat = nat_lt seat.done setup.turns && nat_lt seat.orders 64

-- the command goes up, for that turn
abbrev pub ordered : ℕ → Command → Seat → Acted
ordered c command seat =
    record {
      phase = On (record seat { orders = suc seat.orders });
      says = up.Command (suc seat.done) command ∷ [];
      events = event.Order c (suc seat.done) ∷ [];
    }

-- a client that is on gives a command, where it may
abbrev pub orders : Setup → ℕ → Command → Phase → Acted
orders setup c command Off = idle Off
orders setup c command Joining = idle Joining
orders setup c command (On seat) = if may_order setup seat then ordered c command seat else idle (On seat)

-- ---- a client plays a turn

-- the next turn is one of the match, and known to be released
abbrev pub may_play : Setup → Seat → Bool
may_play setup seat = nat_lt (turns_in seat.past) setup.turns && nat_lt (turns_in seat.past) seat.released

-- the next turn, with the commands known of it, is the newest item of its past
abbrev pub played : Seat → Seat
played seat = record seat { past = Turn (seat.known (suc (turns_in seat.past))) ∷ seat.past }

-- it may be done with one turn more
abbrev pub may_tell_done : Setup → Seat → Bool
may_tell_done setup seat = nat_lt seat.done (min setup.turns (turns_in seat.past + setup.delay))

-- the report of its turn
abbrev pub report_of : Setup → Seat → Up
report_of setup seat = up.Report (turns_in seat.past) (mark_of setup seat)

-- what is printed of a turn that was played; it has the whole digest at each turn
abbrev pub play_event : Setup → ℕ → Seat → Event
play_event setup c seat = event.Play c (turns_in seat.past) (digest_of setup seat)

-- a report goes up, and behind it a done
abbrev pub told_with_done : Setup → ℕ → Seat → Acted
told_with_done setup c seat =
    record {
      phase = On (record seat { done = suc seat.done; orders = 0 });
      says = report_of setup seat ∷ up.Done (suc seat.done) ∷ [];
      events = play_event setup c seat ∷ [];
    }

-- a report goes up alone
abbrev pub told_alone : Setup → ℕ → Seat → Acted
told_alone setup c seat = record { phase = On seat; says = report_of setup seat ∷ []; events = play_event setup c seat ∷ [] }

-- a turn that was played is told
abbrev pub told : Setup → ℕ → Seat → Acted
told setup c seat = if may_tell_done setup seat then told_with_done setup c seat else told_alone setup c seat

-- a client that is on plays the next turn and tells it, where it may
abbrev pub plays : Setup → ℕ → Phase → Acted
plays setup c Off = idle Off
plays setup c Joining = idle Joining
plays setup c (On seat) = if may_play setup seat then told setup c (played seat) else idle (On seat)

-- ---- a client wishes to join

-- one that is off asks the server
abbrev pub joins : ℕ → Phase → Acted
joins c Off = record { phase = Joining; says = up.Join ∷ []; events = event.Join c ∷ [] }
joins c Joining = idle Joining
joins c (On seat) = idle (On seat)

-- ---- the health of an entity is bent, in this client alone

-- a bend is the newest item of its past
abbrev pub bent_seat : ℕ → ℤ → Seat → Seat
bent_seat id health seat = record seat { past = Bend id health ∷ seat.past }

-- what is printed of it
abbrev pub bend_event : Setup → ℕ → Seat → Event
bend_event setup c seat = event.Bend c (turns_in seat.past) (digest_of setup seat)

-- nothing goes up
abbrev pub shows_bend : Setup → ℕ → Seat → Acted
shows_bend setup c seat = record { phase = On seat; says = []; events = bend_event setup c seat ∷ [] }

-- the bend happens where the health may be that
abbrev pub bends : Setup → ℕ → ℕ → ℤ → Phase → Acted
bends setup c id health Off = idle Off
bends setup c id health Joining = idle Joining
bends setup c id health (On seat) =
    if may_bend setup health (row_of (state_of setup seat) id) then shows_bend setup c (bent_seat id health seat) else idle (On seat)

-- ---- a client hears a message

-- a command of a turn that it has not played is known from now on
abbrev pub learns : Setup → ℕ → PlayerCommand → Seat → Seat
learns setup t order seat = if nat_lt (turns_in seat.past) t && is_client setup order.player
    then record seat { known = put t (seat.known t ++ order ∷ []) seat.known } else seat

-- nobody was there to ask, so it is off again
abbrev pub refused : ℕ → Phase
refused code = if code == 4 then Off else Joining

-- each refusal that is heard is printed, and only that of the wish to join has an effect
abbrev pub hears : Setup → ℕ → Phase → Down → Acted
hears setup c Off (down.Ask j) = idle Off
hears setup c Off (down.State done past) = idle Off
hears setup c Off (down.Command t order) = idle Off
hears setup c Off (down.Release t) = idle Off
hears setup c Off (down.Notice t j) = idle Off
hears setup c Off (down.Refused code) = record { phase = Off; says = []; events = event.Refused c code ∷ [] }
hears setup c Joining (down.Ask j) = idle Joining
hears setup c Joining (down.State done past) =
    record { phase = On (begun done (turns_in past) past); says = []; events = event.Load c (turns_in past) (digest setup (after setup past)) ∷ [] }
hears setup c Joining (down.Command t order) = idle Joining
hears setup c Joining (down.Release t) = idle Joining
hears setup c Joining (down.Notice t j) = idle Joining
hears setup c Joining (down.Refused code) = record { phase = refused code; says = []; events = event.Refused c code ∷ [] }
hears setup c (On seat) (down.Ask j) = record { phase = On seat; says = up.State j (turns_in seat.past) seat.past ∷ []; events = [] }
hears setup c (On seat) (down.State done past) = idle (On seat)
hears setup c (On seat) (down.Command t order) = idle (On (learns setup t order seat))
hears setup c (On seat) (down.Release t) = idle (On (record seat { released = max seat.released t }))
hears setup c (On seat) (down.Notice t j) = idle (On seat)
hears setup c (On seat) (down.Refused code) = record { phase = On seat; says = []; events = event.Refused c code ∷ [] }
