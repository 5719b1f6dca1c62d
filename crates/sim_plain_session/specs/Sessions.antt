-- A session: a server, clients, and between them pipes of messages, over a list of steps.
use Rattle.sim_base.specs.declared.step.Step.TheVariants as step
use Rattle.sim_base.specs.declared.step.Event.TheVariants as event
use Rattle.sim_plain.specs.declared.message.DownOf.TheVariants as down
use Rattle.sim_plain.specs.declared.message.UpOf.TheVariants as up
use Rattle.sim_plain_session.specs.{Clients.{Acted, begun, bends, Down, hears, Joining, joins, Off, On, orders, Phase, plays, Seat, Up}, Common.after}
use Rattle.sim_plain_session.specs.Common.{Arrival, Bend, carry_arrival, carry_down, carry_up, Cut, differs, digest, DownOf, enumerate_from, Event, Heard}
use Rattle.sim_plain_session.specs.Common.{heard, may_bend, noticed, notices, opening, Past, Posts, posts, put, report_fault, row_of, Server, server_after}
use Rattle.{sim_plain_session.specs.{Common.{Setup, spelling, Step, Turn, turns_in, up_to, UpOf}, Pasts.{is_client, rules_of}}, std.specs.Prelude.Bool}
use Rattle.std.specs.Prelude.{flat_map, if◌then◌else◌, List, map, min, nat_le, nat_lt, None, suc, take, true, ℕ, ℤ, [], ◌&&◌, ◌++◌, ◌<◌, ◌∷◌, ◌≡◌, ◌≢◌, ◌⊎◌}

-- the server and all that has arrived at it, the newest first; and by client what it is, and the two pipes, the first to be heard first
pub record Session : Type 0 where
  pub server : Server
  pub arrivals : List (Arrival Past)
  pub client : ℕ → Phase
  pub ups : ℕ → List Up
  pub downs : ℕ → List Down

-- a client is one of those that take part from the beginning
abbrev pub is_active : ℕ → ℕ → Bool
is_active active c = nat_lt 0 c && nat_le c active

-- clients 1 to the active number are on, with nothing played
abbrev pub opened : Setup → ℕ → Session
opened setup active =
    record {
      server = opening (rules_of setup) active;
      arrivals = [];
      client = λ c. if is_active active c then On (begun (min setup.turns setup.delay) (min setup.turns setup.delay) []) else Off;
      ups = λ c. [];
      downs = λ c. [];
    }

-- ---- what a step makes of a session

-- a client acts, and what it says goes up
abbrev pub acts : ℕ → Acted → Session → Session
acts c acted s = record s { client = put c acted.phase s.client; ups = put c (s.ups c ++ acted.says) s.ups }

-- something has arrived, the server is this, and what it says goes down
abbrev pub taken : Arrival Past → Server → Posts Past → Session → Session
taken a server said s = record s { server = server; arrivals = a ∷ s.arrivals; downs = λ d. s.downs d ++ said d }

-- something arrives at the server
abbrev pub arrives : Setup → Arrival Past → Session → Session
arrives setup a s = taken a (heard (rules_of setup) s.server a) (posts (rules_of setup) s.server a) s

-- the server hears the first message of a client
abbrev pub rises : Setup → ℕ → List Up → Session → Session
rises setup c [] s = s
rises setup c (said ∷ rest) s = arrives setup (Heard c said) (record s { ups = put c rest s.ups })

-- a client hears the first message for it
abbrev pub falls : Setup → ℕ → List Down → Session → Session
falls setup c [] s = s
falls setup c (said ∷ rest) s = acts c (hears setup c (s.client c) said) (record s { downs = put c rest s.downs })

-- a client is off, its pipes are empty, and the server sees it gone
abbrev pub cut : Setup → ℕ → Session → Session
cut setup c s = arrives setup (Cut c) (record s { client = put c Off s.client; ups = put c [] s.ups; downs = put c [] s.downs })

-- only a client that is not off can be cut
abbrev pub leaves : Setup → ℕ → Phase → Session → Session
leaves setup c Off s = s
leaves setup c Joining s = cut setup c s
leaves setup c (On seat) s = cut setup c s

-- whose step it is
abbrev pub client_of : Step → ℕ
client_of (step.Order c command) = c
client_of (step.Up c) = c
client_of (step.Down c) = c
client_of (step.Play c) = c
client_of (step.Join c) = c
client_of (step.Cut c) = c
client_of (step.Bend c id health) = c

-- a step of a client of the match
abbrev pub stepped_by : Setup → Session → Step → Session
stepped_by setup s (step.Order c command) = acts c (orders setup c command (s.client c)) s
stepped_by setup s (step.Up c) = rises setup c (s.ups c) s
stepped_by setup s (step.Down c) = falls setup c (s.downs c) s
stepped_by setup s (step.Play c) = acts c (plays setup c (s.client c)) s
stepped_by setup s (step.Join c) = acts c (joins c (s.client c)) s
stepped_by setup s (step.Cut c) = leaves setup c (s.client c) s
stepped_by setup s (step.Bend c id health) = acts c (bends setup c id health (s.client c)) s

-- a step of anyone else changes nothing
abbrev pub stepped : Setup → Session → Step → Session
stepped setup s x = if is_client setup (client_of x) then stepped_by setup s x else s

-- the session after some steps, the first one first
abbrev pub after_steps : Setup → Session → List Step → Session
after_steps setup s [] = s
after_steps setup s (x ∷ xs) = after_steps setup (stepped setup s x) xs

-- the session over a list of steps, of which so many clients take part from the beginning
abbrev pub session : Setup → ℕ → List Step → Session
session setup active steps = after_steps setup (opened setup active) steps

-- What is printed of a session.

-- clients that are on at the beginning
abbrev pub start_events : Setup → ℕ → List Event
start_events setup active = map (λ c. event.Start c (digest setup (after setup []))) (up_to active)

-- the notice that an arrival gives, if it gives one
abbrev pub arrival_events : Setup → Server → Arrival Past → List Event
arrival_events setup server a = map (λ (n : ℕ × ℕ). event.Notice n.0 n.1) (noticed (rules_of setup) server a)

-- of what the server hears
abbrev pub rise_events : Setup → Server → ℕ → List Up → List Event
rise_events setup server c [] = []
rise_events setup server c (said ∷ rest) = arrival_events setup server (Heard c said)

-- of what a client hears
abbrev pub fall_events : Setup → ℕ → Phase → List Down → List Event
fall_events setup c phase [] = []
fall_events setup c phase (said ∷ rest) = (hears setup c phase said).events

-- of a cut
abbrev pub leave_events : ℕ → Phase → List Event
leave_events c Off = []
leave_events c Joining = event.Cut c ∷ []
leave_events c (On seat) = event.Cut c ∷ []

-- of a step of a client of the match
abbrev pub events_by : Setup → Session → Step → List Event
events_by setup s (step.Order c command) = (orders setup c command (s.client c)).events
events_by setup s (step.Up c) = rise_events setup s.server c (s.ups c)
events_by setup s (step.Down c) = fall_events setup c (s.client c) (s.downs c)
events_by setup s (step.Play c) = (plays setup c (s.client c)).events
events_by setup s (step.Join c) = (joins c (s.client c)).events
events_by setup s (step.Cut c) = leave_events c (s.client c)
events_by setup s (step.Bend c id health) = (bends setup c id health (s.client c)).events

-- of a step
abbrev pub events : Setup → Session → Step → List Event
events setup s x = if is_client setup (client_of x) then events_by setup s x else []

-- of some steps, the first one first
abbrev pub events_after : Setup → Session → List Step → List Event
events_after setup s [] = []
events_after setup s (x ∷ xs) = events setup s x ++ events_after setup (stepped setup s x) xs

-- all that a session prints of its steps
abbrev pub session_events : Setup → ℕ → List Step → List Event
session_events setup active steps = start_events setup active ++ events_after setup (opened setup active) steps

-- What holds of every session whatever its steps are, without a look at what came before.

-- the server is the one after the arrivals
abbrev pub ServerIsAfterArrivals : Type 0
ServerIsAfterArrivals = (setup : Setup) (active : ℕ) (steps : List Step) → (session setup active steps).server ≡ server_after (rules_of setup) active
    (session setup active steps).arrivals

-- the notices among events
abbrev pub notices_in : List Event → List (ℕ × ℕ)
notices_in [] = []
notices_in (event.Start c g ∷ events) = notices_in events
notices_in (event.Order c t ∷ events) = notices_in events
notices_in (event.Play c t g ∷ events) = notices_in events
notices_in (event.Join c ∷ events) = notices_in events
notices_in (event.Load c t g ∷ events) = notices_in events
notices_in (event.Refused c code ∷ events) = notices_in events
notices_in (event.Cut c ∷ events) = notices_in events
notices_in (event.Bend c t g ∷ events) = notices_in events
notices_in (event.Notice t c ∷ events) = (t, c) ∷ notices_in events

-- a notice is printed for each accepted report that differs from the first of its turn, in order, and no other
abbrev pub NoticesAreOfArrivals : Type 0
NoticesAreOfArrivals =
    (setup : Setup) (active : ℕ) (steps : List Step) → notices_in (events_after setup (opened setup active) steps) ≡ notices (rules_of setup) active
    (session setup active steps).arrivals

-- this is one of a list
abbrev pub Carries : {X : Type 0} → List X → X → Type 0
Carries [] x = ⊥
Carries (y ∷ ys) x = (y ≡ x) ⊎ Carries ys x

-- a client is on, at this turn, and its state has this digest
abbrev pub IsAt : Setup → Session → ℕ → ℕ → List ℕ → Type 0
IsAt setup s c t g = (seat : Seat) × (s.client c ≡ On seat) × (t ≡ turns_in seat.past) × (g ≡ digest setup (after setup seat.past))

-- a turn, a load or a bend that is printed is that of the client, with the digest of the plain turn function over its past
abbrev pub IsShown : Setup → Session → Event → Type 0
IsShown setup s (event.Start c g) = IsAt setup s c 0 g
IsShown setup s (event.Order c t) = Unit {0}
IsShown setup s (event.Play c t g) = IsAt setup s c t g
IsShown setup s (event.Join c) = Unit {0}
IsShown setup s (event.Load c t g) = IsAt setup s c t g
IsShown setup s (event.Refused c code) = Unit {0}
IsShown setup s (event.Cut c) = Unit {0}
IsShown setup s (event.Bend c t g) = IsAt setup s c t g
IsShown setup s (event.Notice t c) = Unit {0}

-- each event of a step shows the session after it
abbrev pub EventsAreShown : Type 0
EventsAreShown = (setup : Setup) (s : Session) (x : Step) (e : Event) → Carries (events setup s x) e → IsShown setup (stepped setup s x) e

-- and each event of the beginning the session that opens
abbrev pub StartsAreShown : Type 0
StartsAreShown = (setup : Setup) (active : ℕ) (e : Event) → Carries (start_events setup active) e → IsShown setup (opened setup active) e

-- one step more is a step of the session so far
abbrev pub SessionGoesOn : Type 0
SessionGoesOn = (setup : Setup) (active : ℕ) (steps : List Step) (x : Step) → session setup active (steps ++ x ∷ []) ≡ stepped setup
    (session setup active steps) x

-- and its events are printed behind those so far
abbrev pub EventsGoOn : Type 0
EventsGoOn = (setup : Setup) (active : ℕ) (steps : List Step) (x : Step) → session_events setup active (steps ++ x ∷ []) ≡ session_events setup active steps ++
    events setup (session setup active steps) x

-- what is printed are the events of the start, and then those of each step, as it comes after the steps before it
abbrev pub EventsAreInOrder : Type 0
EventsAreInOrder =
    (setup : Setup) (active : ℕ) (steps : List Step)
    → session_events setup active steps ≡ start_events setup active
    ++ flat_map (λ (numbered : ℕ × Step). events setup (session setup active (take numbered.0 steps)) numbered.1) (enumerate_from 0 steps)

-- The same session with bytes of states in its messages.

-- the bytes of the state after a past
abbrev pub spelled : Setup → Past → List ℕ
spelled setup past = spelling setup (after setup past)

-- what lies in the up pipe of a client, in bytes
abbrev pub ups_of : Setup → Session → ℕ → List (UpOf (List ℕ))
ups_of setup s c = map (carry_up (spelled setup)) (s.ups c)

-- what lies in its down pipe
abbrev pub downs_of : Setup → Session → ℕ → List (DownOf (List ℕ))
downs_of setup s c = map (carry_down (spelled setup)) (s.downs c)

-- a server that hears bytes becomes what the server of the session becomes
abbrev pub ServerHearsBytes : Type 0
ServerHearsBytes = (setup : Setup) (s : Session) (a : Arrival Past) → (arrives setup a s).server ≡ heard (rules_of setup) s.server
    (carry_arrival (spelled setup) a)

-- and over all steps it is the one after the arrivals in bytes
abbrev pub ServerIsAfterBytes : Type 0
ServerIsAfterBytes =
    (setup : Setup) (active : ℕ) (steps : List Step)
    → (session setup active steps).server ≡ server_after (rules_of setup) active (map (carry_arrival (spelled setup)) (session setup active steps).arrivals)

-- what it says goes behind what lies in each down pipe
abbrev pub BytesGoDown : Type 0
BytesGoDown =
    (setup : Setup) (s : Session) (a : Arrival Past) (c : ℕ) → downs_of setup (arrives setup a s) c ≡ downs_of setup s c ++ posts (rules_of setup) s.server
    (carry_arrival (spelled setup) a) c

-- what a client says goes behind what lies in its up pipe
abbrev pub BytesGoUp : Type 0
BytesGoUp = (setup : Setup) (s : Session) (c : ℕ) (acted : Acted) → ups_of setup (acts c acted s) c ≡ ups_of setup s c ++ map (carry_up (spelled setup))
    acted.says

-- Which steps have an event in a session, and which one: those that can be done, but for messages of which nothing is told.

-- a client can order: it is on, the turn behind its done is one of the match, and it has given fewer than 64 commands for it
pub record CanOrder (setup : Setup) (s : Session) (c : ℕ) (seat : Seat) : Type 0 where
  pub on : s.client c ≡ On seat
  pub turn : seat.done < setup.turns
  pub few : seat.orders < 64

-- it can play: it is on, and the turn behind its own is one of the match, and known to it as released
pub record CanPlay (setup : Setup) (s : Session) (c : ℕ) (seat : Seat) : Type 0 where
  pub on : s.client c ≡ On seat
  pub turn : turns_in seat.past < setup.turns
  pub released : turns_in seat.past < seat.released

-- it can be bent: it is on, and the entity may have this health in its state
pub record CanBend (setup : Setup) (s : Session) (c id : ℕ) (health : ℤ) (seat : Seat) : Type 0 where
  pub on : s.client c ≡ On seat
  pub may : may_bend setup health (row_of (after setup seat.past) id) ≡ true

-- it can load: it is joining, and the next message for it is the state after this past
pub record CanLoad (s : Session) (c : ℕ) (past : Past) : Type 0 where
  pub joining : s.client c ≡ Joining
  pub done : ℕ
  pub rest : List Down
  pub next : s.downs c ≡ down.State done past ∷ rest

-- the next message for it is a refusal
pub record IsRefused (s : Session) (c code : ℕ) : Type 0 where
  pub rest : List Down
  pub next : s.downs c ≡ down.Refused code ∷ rest

-- its next message is a report of this turn, which the server accepts, and which differs from the first one of that turn
pub record ReportsOther (s : Session) (c t : ℕ) : Type 0 where
  pub mark : List ℕ
  pub rest : List Up
  pub next : s.ups c ≡ up.Report t mark ∷ rest
  pub accepted : report_fault s.server.released t (s.server.status c) ≡ None
  pub other : differs (s.server.reference t) mark ≡ true

-- A step has this event: the step can be done, its client is that of the event, the turn is the one that the client is then at (of an
-- order the one that the command is for), and the digest is that of the state after the client's past and what the step puts on it.
abbrev pub IsOfStep : Setup → Session → Step → Event → Type 0
IsOfStep setup s (step.Order c command) (event.Order d t) = (c ≡ d) × (seat : Seat) × CanOrder setup s c seat × (t ≡ suc seat.done)
IsOfStep setup s (step.Up c) (event.Notice t d) = (c ≡ d) × ReportsOther s c t
IsOfStep setup s (step.Down c) (event.Load d t g) = (c ≡ d) × (past : Past) × CanLoad s c past × (t ≡ turns_in past) × (g ≡ digest setup (after setup past))
IsOfStep setup s (step.Down c) (event.Refused d code) = (c ≡ d) × IsRefused s c code
IsOfStep setup s (step.Play c) (event.Play d t g) =
    (c ≡ d) × (seat : Seat) × CanPlay setup s c seat × (t ≡ suc (turns_in seat.past)) × (g ≡ digest setup (after setup (Turn (seat.known t) ∷ seat.past)))
IsOfStep setup s (step.Join c) (event.Join d) = (c ≡ d) × (s.client c ≡ Off)
IsOfStep setup s (step.Cut c) (event.Cut d) = (c ≡ d) × (s.client c ≢ Off)
IsOfStep setup s (step.Bend c id health) (event.Bend d t g) =
    (c ≡ d) × (seat : Seat) × CanBend setup s c id health seat × (t ≡ turns_in seat.past) × (g ≡ digest setup (after setup (Bend id health ∷ seat.past)))
IsOfStep setup s x e = ⊥

-- a step has each event that is printed of it
abbrev pub EventsAreOfSteps : Type 0
EventsAreOfSteps = (setup : Setup) (s : Session) (x : Step) (e : Event) → Carries (events setup s x) e → IsOfStep setup s x e

-- and of a step that has an event just that one is printed
abbrev pub StepsHaveEvents : Type 0
StepsHaveEvents = (setup : Setup) (s : Session) (x : Step) (e : Event) → is_client setup (client_of x) ≡ true → IsOfStep setup s x e → events setup s x ≡ e ∷ []
