-- What the text of a session shows, whatever its steps are.
use Rattle.sim_base.specs.declared.step.Event.TheVariants as event
use Rattle.sim_base.specs.declared.step.Step.TheVariants as step
use Rattle.sim_session.specs.declared.ending.End.TheVariants as ends
use Rattle.sim_base.specs.{declared.{setup.Setup.Setup, state.State.State, step.{Event.Event, Step.Step}}, Limits.IsSetup, Spelling.digest}
use Rattle.{sim_base.specs.Turn.{after, Turn, turns_in}, sim_client.specs.StageWords.{AreCleared, nowhere}}
use Rattle.{sim_diff.specs.{declared.place.Place.Place, Difference.difference_of}, sim_lists.specs.{declared.step_list.StepList.StepList, StepLists.IsStepList}}
use Rattle.{sim_plain.specs.Server.{notices, Server}, sim_plain_session.specs.{Clients.{Joining, Off, On, Phase, Seat, state_of}, Pasts.is_unbent}}
use Rattle.sim_plain_session.specs.{Pasts.{kept_turns, rules_of}, Sessions.{CanPlay, Carries, events, IsOfStep, notices_in, Session, session, session_events}}
use Rattle.{sim_report.specs.{Downs.released_line, Lines.event_line, Places.part_name}, sim_session.specs.Endings.{end_lines, end_of, of_client, pipe_lines}}
use Rattle.{sim_session.specs.{Endings.told_of, Served.kept_lines}, sim_system.specs.Meanings.{AreFed, Meaning, Systems}}
use Rattle.std.specs.Prelude.{Bool, codes, count_by, decimal, false, flat_map, if◌then◌else◌, List, nat_le, nat_lt, None, Option, slice_index_or, Some, suc}
use Rattle.std.specs.Prelude.{true, ℕ, [], ◌++◌, ◌+◌, ◌-◌, ◌<◌, ◌==◌, ◌↔◌, ◌∷◌, ◌≡◌, ◌≤◌}

-- Which clients of a session have come to different states in one turn.

-- the entity and the part of a place
abbrev pub place_name : Place → List ℕ
place_name place = codes "entity " ++ (decimal place.entity ++ (codes " part " ++ (part_name place.part ++ codes "\n")))

-- two clients, and the first place at which their states differ
abbrev pub apart_line : ℕ → ℕ → Place → List ℕ
apart_line left right place = of_client (codes "differ") left ++ (decimal right ++ (codes " " ++ place_name place))

-- nothing is told where there is none
abbrev pub apart_at : ℕ → ℕ → Option Place → List ℕ
apart_at a b None = []
apart_at a b (Some place) = apart_line a b place

-- only states of one turn are compared
abbrev pub states_apart : ℕ → ℕ → State → State → List ℕ
states_apart a b left right = if left.turn == right.turn then apart_at a b (difference_of left right) else []

-- the state of a client that is on
abbrev pub state_at : Setup → Phase → Option State
state_at setup Off = None
state_at setup Joining = None
state_at setup (On seat) = Some (state_of setup seat)

-- only clients that are on are compared
abbrev pub both_apart : ℕ → ℕ → Option State → Option State → List ℕ
both_apart a b None right = []
both_apart a b (Some left) None = []
both_apart a b (Some left) (Some right) = states_apart a b left right

-- each pair is compared once, the lesser client first
abbrev pub pair_apart : ℕ → ℕ → Option State → Option State → List ℕ
pair_apart a b left right = if nat_lt a b then both_apart a b left right else []

-- two clients of a session
abbrev pub clients_apart : Setup → Session → ℕ → ℕ → List ℕ
clients_apart setup s a b = pair_apart a b (state_at setup (s.client a)) (state_at setup (s.client b))

-- all pairs by their lesser client and then by the other one
abbrev pub apart_lines : Setup → Session → List ℕ
apart_lines setup s = told_of (λ a. told_of (clients_apart setup s a) setup.players) setup.players

-- The whole text of a session.

-- the session of a list after some of its steps
abbrev pub session_at : Setup → StepList → List Step → Session
session_at setup list before = session setup list.clients before

-- and after all of them
abbrev pub session_of : Setup → StepList → Session
session_of setup list = session_at setup list list.steps

-- what is printed of a step that comes after these
abbrev pub step_events : Setup → StepList → List Step → Step → List Event
step_events setup list before x = events setup (session_at setup list before) x

-- all that is printed of the start and of the steps, in order
abbrev pub events_of : Setup → StepList → List Event
events_of setup list = session_events setup list.clients list.steps

-- a line for each
abbrev pub lines_of : List Event → List ℕ
lines_of events = flat_map event_line events

-- what a server has come to: its released turns, and how many commands it keeps of which turn
abbrev pub server_lines : Setup → Server → List ℕ
server_lines setup server = released_line server.released ++ kept_lines server.kept setup.turns

-- what a session has come to: its server, the clients that differ, what each client is, and what lies in the pipes
abbrev pub ending_lines : Setup → Session → List ℕ
ending_lines setup s = server_lines setup s.server ++ (apart_lines setup s ++ (end_lines setup s ++ pipe_lines setup s))

-- the events of a session, and what it has come to
abbrev pub session_text : Setup → StepList → List ℕ
session_text setup list = lines_of (events_of setup list) ++ ending_lines setup (session_of setup list)

-- a step of the list, with the steps before it
pub record IsStepAt (list : StepList) (before : List Step) (x : Step) : Type 0 where
  pub rest : List Step
  pub steps : before ++ x ∷ rest ≡ list.steps

-- After exactly these steps a client is on, with so many turns in its past, and this is the digest of the state after that past. A past
-- without a bend is exactly the turns up to this one, with the commands that the server keeps of them then, and still in the end.
pub record StandsAt (setup : Setup) (list : StepList) (before : List Step) (c turn : ℕ) (shown : List ℕ) : Type 0 where
  pub seat : Seat
  pub on : (session_at setup list before).client c ≡ On seat
  pub turns : turn ≡ turns_in seat.past
  pub state : shown ≡ digest setup (after setup seat.past)
  pub unbent : is_unbent seat.past ≡ true → seat.past ≡ kept_turns (session_at setup list before).server.kept turn
  pub final : is_unbent seat.past ≡ true → seat.past ≡ kept_turns (session_of setup list).server.kept turn

-- an event with a digest shows its client as it stands after these steps
abbrev pub ShowsPast : Setup → StepList → List Step → Event → Type 0
ShowsPast setup list before (event.Start c g) = StandsAt setup list before c 0 g
ShowsPast setup list before (event.Order c t) = Unit {0}
ShowsPast setup list before (event.Play c t g) = StandsAt setup list before c t g
ShowsPast setup list before (event.Join c) = Unit {0}
ShowsPast setup list before (event.Load c t g) = StandsAt setup list before c t g
ShowsPast setup list before (event.Refused c code) = Unit {0}
ShowsPast setup list before (event.Cut c) = Unit {0}
ShowsPast setup list before (event.Bend c t g) = StandsAt setup list before c t g
ShowsPast setup list before (event.Notice t c) = Unit {0}

-- the first state is that of each client that takes part from the start, before any step
abbrev pub StartsShowPasts : Type 0
StartsShowPasts =
    (setup : Setup) (list : StepList) (c : ℕ) → IsStepList setup.players list → 0 < c → c ≤ list.clients
    → StandsAt setup list [] c 0 (digest setup (after setup []))

-- an event of a step shows its client right after that step
abbrev pub StepsShowPasts : Type 0
StepsShowPasts =
    (setup : Setup) (list : StepList) (before : List Step) (x : Step) (e : Event) → IsStepList setup.players list → IsStepAt list before x
    → Carries (step_events setup list before x) e → ShowsPast setup list (before ++ x ∷ []) e

-- so each event that has a line shows its client after some of the steps
abbrev pub EventsShowPasts : Type 0
EventsShowPasts =
    (setup : Setup) (list : StepList) (e : Event) → IsStepList setup.players list → Carries (events_of setup list) e
    → (before : List Step) × (rest : List Step) × (before ++ rest ≡ list.steps) × ShowsPast setup list before e

-- the last line of each client that is on shows it after all steps
abbrev pub EndsShowPasts : Type 0
EndsShowPasts =
    (setup : Setup) (list : StepList) (c t : ℕ) (g : List ℕ) → IsStepList setup.players list
    → end_of setup ((session_of setup list).client c) ≡ ends.On t g → StandsAt setup list list.steps c t g

-- Where a client can play after these steps, just one event is printed of that play: the turn behind its own, and the digest of the state
-- after its past and that turn, with the commands that it knows of it.
abbrev pub PlayIsTold : Setup → StepList → List Step → ℕ → Type 0
PlayIsTold setup list before c =
    (seat : Seat) → CanPlay setup (session_at setup list before) c seat
    → let turn = suc (turns_in seat.past) in
    step_events setup list before (step.Play c) ≡ event.Play c turn (digest setup (after setup (Turn (seat.known turn) ∷ seat.past))) ∷ []

-- so it is for each play
abbrev pub PlaysAreTold : Type 0
PlaysAreTold =
    (setup : Setup) (list : StepList) (before : List Step) (c : ℕ) → IsStepList setup.players list → IsStepAt list before (step.Play c)
    → PlayIsTold setup list before c

-- of a step of any kind that has an event just that one is printed
abbrev pub StepsAreTold : Type 0
StepsAreTold =
    (setup : Setup) (list : StepList) (before : List Step) (x : Step) (e : Event) → IsStepList setup.players list → IsStepAt list before x
    → IsOfStep setup (session_at setup list before) x e → step_events setup list before x ≡ e ∷ []

-- the notices that have a line are, in order, the accepted reports that differ from the first one of their turn
abbrev pub NoticesAreOfReports : Type 0
NoticesAreOfReports =
    (setup : Setup) (list : StepList) → notices_in (events_of setup list) ≡ notices (rules_of setup) list.clients (session_of setup list).arrivals

-- two clients at equal turns have no line exactly where their states are the same
abbrev pub ApartWhereDifferent : Type 0
ApartWhereDifferent =
    (setup : Setup) (list : StepList) (a b : ℕ) (left right : Seat) → IsSetup setup → IsStepList setup.players list → a < b
    → (session_of setup list).client a ≡ On left → (session_of setup list).client b ≡ On right → turns_in left.past ≡ turns_in right.past
    → (clients_apart setup (session_of setup list) a b ≡ []) ↔ (after setup left.past ≡ after setup right.past)

-- and none where neither was bent
abbrev pub UnbentAreTogether : Type 0
UnbentAreTogether =
    (setup : Setup) (list : StepList) (a b : ℕ) (left right : Seat) → IsSetup setup → IsStepList setup.players list
    → (session_of setup list).client a ≡ On left → (session_of setup list).client b ≡ On right → is_unbent left.past ≡ true → is_unbent right.past ≡ true
    → clients_apart setup (session_of setup list) a b ≡ []

-- What the systems of clients stand for when a session has ended, and how often they were built in it.

-- those of a client that is on have the facts of its state, and those of any other none
abbrev pub StandFor : Setup → Phase → Systems → Type 0
StandFor setup Off s = AreCleared s
StandFor setup Joining s = AreCleared s
StandFor setup (On seat) s = AreFed setup (state_of setup seat) s

-- those of each client, the first of which is client 1
abbrev pub AllStand : Setup → Session → List Systems → Type 0
AllStand setup s systems = (c : ℕ) → 0 < c → c ≤ setup.players → StandFor setup (s.client c) (slice_index_or systems (c - 1) nowhere)

-- ---- how often they were built

-- an event is a load of this client
abbrev pub is_load_of : ℕ → Event → Bool
is_load_of c (event.Start d g) = false
is_load_of c (event.Order d t) = false
is_load_of c (event.Play d t g) = false
is_load_of c (event.Join d) = false
is_load_of c (event.Load d t g) = d == c
is_load_of c (event.Refused d code) = false
is_load_of c (event.Cut d) = false
is_load_of c (event.Bend d t g) = false
is_load_of c (event.Notice t d) = false

-- how many loads of a client there are among these events
abbrev pub loads_in : List Event → ℕ → ℕ
loads_in events c = count_by (is_load_of c) events

-- one for a client that takes part from the beginning
abbrev pub begun_by : ℕ → ℕ → ℕ
begun_by clients c = if nat_le c clients then 1 else 0

-- and one for each of its loads
abbrev pub builds_of : Setup → StepList → ℕ → ℕ
builds_of setup list c = begun_by list.clients c + loads_in (events_of setup list) c

-- a system was built at most so often
pub record IsBuiltAtMost (most : ℕ) (m n : Meaning) : Type 0 where
  pub low : m.rebuilds ≤ n.rebuilds
  pub high : n.rebuilds ≤ m.rebuilds + most

-- each of the four was
pub record AreBuiltAtMost (most : ℕ) (s t : Systems) : Type 0 where
  pub ground : IsBuiltAtMost most s.ground t.ground
  pub range : IsBuiltAtMost most s.range t.range
  pub watch : IsBuiltAtMost most s.watch t.watch
  pub census : IsBuiltAtMost most s.census t.census

-- those of each client were, by its number
abbrev pub AllBuiltAtMost : (ℕ → ℕ) → ℕ → List Systems → List Systems → Type 0
AllBuiltAtMost most players old new =
    (c : ℕ) → 0 < c → c ≤ players → AreBuiltAtMost (most c) (slice_index_or old (c - 1) nowhere) (slice_index_or new (c - 1) nowhere)
