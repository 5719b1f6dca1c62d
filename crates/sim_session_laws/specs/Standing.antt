-- Valid states, and who stands where.
use Rattle.sim_plain.specs.declared.message.DownOf.TheVariants as down
use Rattle.sim_plain.specs.declared.message.UpOf.TheVariants as up
use Rattle.sim_base.specs.declared.{command.PlayerCommand.PlayerCommand, setup.Setup.Setup, state.State.State, step.Step.Step}
use Rattle.{sim_base.specs.{Limits.{IsSetup, IsValid}, Spelling.{digest, spelling}, Turn.{after, Past, turns_in}}, sim_laws.specs.TurnLaws.IsOrderOf}
use Rattle.sim_plain.specs.{declared.{message.DownOf.DownOf, status.Status.TheVariants.{In, Out, Waiting}}, Server.is_in}
use Rattle.sim_plain_session.specs.{Clients.{Down, Joining, Off, On, orders, Seat, Up}, Pasts.{is_client, is_unbent, kept_turns}}
use Rattle.sim_plain_session.specs.Sessions.{Carries, downs_of, Session, session}
use Rattle.std.specs.Prelude.{All, false, if◌then◌else◌, length, List, suc, true, ℕ, [], ◌++◌, ◌+◌, ◌<◌, ◌==◌, ◌∷◌, ◌≡◌, ◌≤◌, ◌⊎◌}

-- What lies in the pipes of a session.

-- these are the messages behind one of a pipe
abbrev pub Behind : List Down → Down → List Down → Type 0
Behind [] x rest = ⊥
Behind (y ∷ ys) x rest = ((y ≡ x) × (ys ≡ rest)) ⊎ Behind ys x rest

-- the commands of a turn in a pipe
abbrev pub commands_at : ℕ → List Down → List PlayerCommand
commands_at u [] = []
commands_at u (down.Ask j ∷ downs) = commands_at u downs
commands_at u (down.State done past ∷ downs) = commands_at u downs
commands_at u (down.Command t x ∷ downs) = if t == u then x ∷ commands_at u downs else commands_at u downs
commands_at u (down.Release t ∷ downs) = commands_at u downs
commands_at u (down.Notice t j ∷ downs) = commands_at u downs
commands_at u (down.Refused code ∷ downs) = commands_at u downs

-- the turns of the dones in an up pipe
abbrev pub dones_in : List Up → List ℕ
dones_in [] = []
dones_in (up.Join ∷ ups) = dones_in ups
dones_in (up.Command t x ∷ ups) = dones_in ups
dones_in (up.Done t ∷ ups) = t ∷ dones_in ups
dones_in (up.Report t g ∷ ups) = dones_in ups
dones_in (up.State j t past ∷ ups) = dones_in ups

-- each number is one more than that before it
abbrev pub GoOn : ℕ → List ℕ → Type 0
GoOn from [] = Unit {0}
GoOn from (t ∷ ts) = (t ≡ suc from) × GoOn t ts

-- a client has this past
abbrev pub IsClients : Session → Past → Type 0
IsClients s past = (c : ℕ) × (seat : Seat) × (s.client c ≡ On seat) × (seat.past ≡ past)

-- a message on its way carries this past
abbrev pub IsCarried : Session → Past → Type 0
IsCarried s past = ((c : ℕ) × (j : ℕ) × (t : ℕ) × Carries (s.ups c) (up.State j t past)) ⊎ ((c : ℕ) × (done : ℕ) × Carries (s.downs c) (down.State done past))

-- a past that a client has, or that a message carries
abbrev pub IsPast : Session → Past → Type 0
IsPast s past = IsClients s past ⊎ IsCarried s past

-- A fact that holds of every session.

-- something that may hold of a session
abbrev pub Fact : Type 1
Fact = Setup → Session → Type 0

-- it holds of the session over every list of steps
abbrev pub Always : Fact → Type 0
Always fact = (setup : Setup) (active : ℕ) (steps : List Step) → IsSetup setup → active ≤ setup.players → fact setup (session setup active steps)

-- all are by players of the match
abbrev pub AllPlayers : Setup → List PlayerCommand → Type 0
AllPlayers setup orders = All (IsOrderOf setup) orders

-- the state after every past is valid
abbrev pub PastsAreValid : Fact
PastsAreValid setup s = (past : Past) → IsPast s past → IsValid setup (after setup past)

-- the state of a client has its turn
abbrev pub StatesHaveTurns : Fact
StatesHaveTurns setup s = (past : Past) → IsPast s past → (after setup past).turn ≡ turns_in past

-- a state that a client is to hear next is valid, so that no bytes of it are refused
abbrev pub NoStateIsRefused : Fact
NoStateIsRefused setup s = (c done : ℕ) (past : Past) (rest : List Down) → s.downs c ≡ down.State done past ∷ rest → IsValid setup (after setup past)

-- where messages carry bytes, those that a client is to hear next spell a valid state
abbrev pub HeardBytesSpellAState : Fact
HeardBytesSpellAState setup s =
    (c done : ℕ) (bytes : List ℕ) (rest : List (DownOf (List ℕ))) → downs_of setup s c ≡ down.State done bytes ∷ rest
    → (state : State) × IsValid setup state × (bytes ≡ spelling setup state)

-- every command that a client knows is by a player of the match
abbrev pub KnownAreOfPlayers : Fact
KnownAreOfPlayers setup s = (c t : ℕ) (seat : Seat) → s.client c ≡ On seat → AllPlayers setup (seat.known t)

-- a client that is off has empty pipes, and is out
abbrev pub OffIsOut : Fact
OffIsOut setup s = (c : ℕ) → s.client c ≡ Off → (s.ups c ≡ []) × (s.downs c ≡ []) × (s.server.status c ≡ Out)

-- a client that is on is in
abbrev pub OnIsIn : Fact
OnIsIn setup s = (c : ℕ) (seat : Seat) → s.client c ≡ On seat → is_in (s.server.status c) ≡ true

-- a client that is joining and out has its wish in the up pipe or a refusal of it in the down pipe, and nothing else
abbrev pub OutHasWish : Fact
OutHasWish setup s =
    (c : ℕ) → s.client c ≡ Joining → s.server.status c ≡ Out → ((s.ups c ≡ up.Join ∷ []) × (s.downs c ≡ []))
    ⊎ ((s.ups c ≡ []) × (s.downs c ≡ down.Refused 4 ∷ []))

-- a client that is joining and waits has empty pipes, and its donor is in
abbrev pub WaitingHasDonor : Fact
WaitingHasDonor setup s =
    (c donor : ℕ) → s.client c ≡ Joining → s.server.status c ≡ Waiting donor → (s.ups c ≡ []) × (s.downs c ≡ []) × (is_in (s.server.status donor) ≡ true)

-- a client that is joining and in has an empty up pipe, and its state first in its down pipe
abbrev pub InHasState : Fact
InHasState setup s =
    (c done : ℕ) → s.client c ≡ Joining → s.server.status c ≡ In done
    → (s.ups c ≡ []) × (first : ℕ) × (past : Past) × (rest : List Down) × (s.downs c ≡ down.State first past ∷ rest)

-- nobody but clients of the match is more than out
abbrev pub StrangersAreOut : Fact
StrangersAreOut setup s = (c : ℕ) → is_client setup c ≡ false → s.server.status c ≡ Out

-- How far clients may be ahead, and what is released.

-- no turn is released that the match has not
abbrev pub ReleasedAreTurns : Fact
ReleasedAreTurns setup s = s.server.released ≤ setup.turns

-- the done of a client that is in is at least the released turns, and a turn of the match
abbrev pub DonesAreTurns : Fact
DonesAreTurns setup s = (c done : ℕ) → s.server.status c ≡ In done → (s.server.released ≤ done) × (done ≤ setup.turns)

-- the done of a client that is on is the server's and one for each of its dones on their way
abbrev pub DonesAreCounted : Fact
DonesAreCounted setup s = (c done : ℕ) (seat : Seat) → s.client c ≡ On seat → s.server.status c ≡ In done → seat.done ≡ done + length (dones_in (s.ups c))

-- these go on by one from the server's
abbrev pub DonesGoOn : Fact
DonesGoOn setup s = (c done : ℕ) (seat : Seat) → s.client c ≡ On seat → s.server.status c ≡ In done → GoOn done (dones_in (s.ups c))

-- and each is a turn of the match, and not further ahead than the delay
abbrev pub DonesAreNear : Fact
DonesAreNear setup s = (c t : ℕ) → Carries (s.ups c) (up.Done t) → (t ≤ setup.turns) × (t ≤ s.server.released + setup.delay)

-- the done in the state that waits for a joining client is the server's
abbrev pub StateHasDone : Fact
StateHasDone setup s =
    (c done first : ℕ) (past : Past) (rest : List Down) → s.client c ≡ Joining → s.server.status c ≡ In done → s.downs c ≡ down.State first past ∷ rest
    → first ≡ done

-- a release on its way is of released turns
abbrev pub ReleasesAreReleased : Fact
ReleasesAreReleased setup s = (c r : ℕ) → Carries (s.downs c) (down.Release r) → r ≤ s.server.released

-- the turn of a client that is on is one that it knows to be released, and so it is
abbrev pub TurnsAreReleased : Fact
TurnsAreReleased setup s = (c : ℕ) (seat : Seat) → s.client c ≡ On seat → (turns_in seat.past ≤ seat.released) × (seat.released ≤ s.server.released)

-- the turn of a past on its way is released
abbrev pub CarriedAreReleased : Fact
CarriedAreReleased setup s = (past : Past) → IsCarried s past → turns_in past ≤ s.server.released

-- a state on its way to the server comes with the turn of its past
abbrev pub StampsAreTurns : Fact
StampsAreTurns setup s = (c j t : ℕ) (past : Past) → Carries (s.ups c) (up.State j t past) → t ≡ turns_in past

-- the commands of released turns stay as they are, whatever steps follow
abbrev pub ReleasedAreFinal : Type 0
ReleasedAreFinal =
    (setup : Setup) (active : ℕ) (steps more : List Step) (t : ℕ) → active ≤ setup.players → t ≤ (session setup active steps).server.released
    → (session setup active (steps ++ more)).server.kept t ≡ (session setup active steps).server.kept t

-- and no turn that is released is taken back
abbrev pub ReleasedOnlyRise : Type 0
ReleasedOnlyRise =
    (setup : Setup) (active : ℕ) (steps more : List Step) → active ≤ setup.players → (session setup active steps).server.released ≤
    (session setup active (steps ++ more)).server.released

-- Which commands clients know and are still to hear, and what their pasts are.

-- the kept commands are by players of the match
abbrev pub KeptAreOfPlayers : Fact
KeptAreOfPlayers setup s = (t : ℕ) → AllPlayers setup (s.server.kept t)

-- and of turns of the match
abbrev pub KeptAreTurns : Fact
KeptAreTurns setup s = (t : ℕ) → setup.turns < t → s.server.kept t ≡ []

-- the commands that a client knows of a turn above its own, and behind them those on their way to it, are the kept ones
abbrev pub KnownAndComingAreKept : Fact
KnownAndComingAreKept setup s = (c t : ℕ) (seat : Seat) → s.client c ≡ On seat → turns_in seat.past < t → seat.known t ++ commands_at t (s.downs c) ≡
    s.server.kept t

-- no command on its way to a client is of a turn that it knows to be released
abbrev pub ComingAreAboveRelease : Fact
ComingAreAboveRelease setup s = (c t : ℕ) (order : PlayerCommand) (seat : Seat) → s.client c ≡ On seat → Carries (s.downs c) (down.Command t order)
    → seat.released < t

-- no command behind a release is of a turn that this releases
abbrev pub NoneBehindRelease : Fact
NoneBehindRelease setup s =
    (c r t : ℕ) (order : PlayerCommand) (rest : List Down) → Behind (s.downs c) (down.Release r) rest → Carries rest (down.Command t order) → r < t

-- the commands behind the state of a joining client are the kept ones above the turn of its past
abbrev pub BehindStateAreKept : Fact
BehindStateAreKept setup s =
    (c done t : ℕ) (past : Past) (rest : List Down) → s.client c ≡ Joining → s.downs c ≡ down.State done past ∷ rest → turns_in past < t
    → commands_at t rest ≡ s.server.kept t

-- an unbent past is the kept turns up to its turn
abbrev pub UnbentAreKept : Fact
UnbentAreKept setup s = (past : Past) → IsPast s past → is_unbent past ≡ true → past ≡ kept_turns s.server.kept (turns_in past)

-- two unbent clients at equal turns have equal states and digests
abbrev pub UnbentAgree : Fact
UnbentAgree setup s =
    (c d : ℕ) (a b : Seat) → s.client c ≡ On a → s.client d ≡ On b → is_unbent a.past ≡ true → is_unbent b.past ≡ true → turns_in a.past ≡ turns_in b.past
    → (after setup a.past ≡ after setup b.past) × (digest setup (after setup a.past) ≡ digest setup (after setup b.past))
