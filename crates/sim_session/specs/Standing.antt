-- For which session of the definition a session in memory stands.
use Rattle.sim_base.specs.declared.step.Step.TheVariants as step
use Rattle.sim_plain.specs.declared.message.DownOf.TheVariants as down
use Rattle.sim_base.specs.declared.step.Event.TheVariants as event
use Rattle.sim_base.specs.{declared.{setup.Setup.Setup, step.{Event.Event, Step.Step}}, Limits.{HasFewIds, IsValid}, Turn.{after, Past}}
use Rattle.{sim_board.specs.Boards.AreKept, sim_client.specs.{ClientWords.{life, setup_in}, declared.client.Client.Client}}
use Rattle.sim_client.specs.{declared.did.Did.{Did, TheVariants.{Done, Idle}}, Lives.{Life, Lives, Off, Said}, StageWords.{IsSoundAt, systems_on}}
use Rattle.{sim_pipes.specs.Pipes.{Conveys, Held}, sim_plain_session.specs.Clients.{Down, On, Seat}}
use Rattle.{sim_plain_session.specs.Sessions.{client_of, events, events_by, Session, session, stepped, stepped_by}, sim_server.specs.Standing.IsClient}
use Rattle.sim_system.specs.{declared.system.System.Ghosts, Meanings.{AreBuiltOnceAtMost, HaveKinds, HaveSameRebuilds, Meaning, Systems}}
use Rattle.std.specs.Prelude.{Bool, false, IfOk, IsOk, length, List, OnOk, Result, slice_index_or, true, ℕ, [], ◌++◌, ◌-◌, ◌<◌, ◌||◌, ◌∷◌, ◌≡◌, ◌≢◌, ◌≤◌}

-- a number of a client
abbrev pub IsNumber : Setup → ℕ → Type 0
IsNumber setup c = (0 < c) × (c ≤ setup.players)

-- a command that is ordered names few entities
abbrev pub IsSmallStep : Step → Type 0
IsSmallStep (step.Order c command) = HasFewIds command
IsSmallStep (step.Up c) = Unit {0}
IsSmallStep (step.Down c) = Unit {0}
IsSmallStep (step.Play c) = Unit {0}
IsSmallStep (step.Join c) = Unit {0}
IsSmallStep (step.Cut c) = Unit {0}
IsSmallStep (step.Bend c id health) = Unit {0}

-- what a client said, if it did anything
abbrev pub said_by : Did → List Said
said_by Idle = []
said_by (Done ups) = ups

-- a step is not enabled: it has no event, and the session stays as it is
pub record IsIdle (setup : Setup) (s : Session) (x : Step) : Type 0 where
  pub shown : events setup s x ≡ []
  pub same : stepped setup s x ≡ s

-- ---- one client beside the exchange

-- the state that a client is to hear next, and its own, are valid
pub record HasValidStates (setup : Setup) (c : ℕ) (s : Session) : Type 0 where
  pub heard : (done : ℕ) (past : Past) (rest : List Down) → s.downs c ≡ down.State done past ∷ rest → IsValid setup (after setup past)
  pub own : (seat : Seat) → s.client c ≡ On seat → IsValid setup (after setup seat.past)

-- the client of a number has the state after its past, and the exchange is that of the session
pub record StandBeside (setup : Setup) (c : ℕ) (own : Life) (pipes : Held) (s : Session) : Type 0 where
  pub lives : Lives setup own (s.client c)
  pub held : Conveys setup pipes s

-- of every session with valid states for which they stood, they stand for what a step makes of it, and just its events are answered
pub record Makes (setup : Setup) (x : Step) (old : Life) (before : Held) (new : Life) (behind : Held) (answered : List Event) : Type 0 where
  pub stand : (s : Session) → HasValidStates setup (client_of x) s → StandBeside setup (client_of x) old before s → StandBeside setup (client_of x) new behind
      (stepped_by setup s x)
  pub printed : (s : Session) → HasValidStates setup (client_of x) s → StandBeside setup (client_of x) old before s → answered ≡ events_by setup s x

-- ---- all clients

-- what the client of a number is, where client 1 is the first
abbrev pub life_of : List Life → ℕ → Life
life_of lives c = slice_index_or lives (c - 1) Off

-- what contracts see of a session: what its clients are, and what lies in its pipes and at its server
pub record Seen : Type 0 where
  pub lives : List Life
  pub held : Held

-- each client has the state after its past, each pipe the frames of the messages in it, and the server is that of the session
pub record StandsFor (setup : Setup) (seen : Seen) (s : Session) : Type 0 where
  pub lives : (c : ℕ) → 0 < c → c ≤ setup.players → Lives setup (life_of seen.lives c) (s.client c)
  pub held : Conveys setup seen.held s

-- it stands for the session over some steps
pub record StandsForSome (setup : Setup) (seen : Seen) : Type 0 where
  pub active : ℕ
  pub steps : List Step
  pub few : active ≤ setup.players
  pub stands : StandsFor setup seen (session setup active steps)

-- what stood for the session over some steps stands for that over one step more, and just the events of that step are answered
pub record Steps (setup : Setup) (old : Seen) (x : Step) (new : Seen) (answered : List Event) : Type 0 where
  pub stands : (active : ℕ) (steps : List Step) → active ≤ setup.players → StandsFor setup old (session setup active steps)
      → StandsFor setup new (session setup active (steps ++ x ∷ []))
  pub printed : (active : ℕ) (steps : List Step) → active ≤ setup.players → StandsFor setup old (session setup active steps)
      → answered ≡ events setup (session setup active steps) x

-- How often the systems of clients are built.

-- a state was loaded
abbrev pub is_load : Event → Bool
is_load (event.Start c g) = false
is_load (event.Order c t) = false
is_load (event.Play c t g) = false
is_load (event.Join c) = false
is_load (event.Load c t g) = true
is_load (event.Refused c code) = false
is_load (event.Cut c) = false
is_load (event.Bend c t g) = false
is_load (event.Notice t c) = false

-- one of these events says so
abbrev pub has_load : List Event → Bool
has_load [] = false
has_load (e ∷ events) = is_load e || has_load events

-- systems were built once at most where a state was loaded, and else not at all
abbrev pub AreBuiltIf : Bool → Systems → Systems → Type 0
AreBuiltIf true old new = AreBuiltOnceAtMost old new
AreBuiltIf false old new = HaveSameRebuilds old new

-- the systems are in their places, and were built once at most
pub record AreBuilt (old new : Systems) : Type 0 where
  pub kinds : HaveKinds new
  pub most : AreBuiltOnceAtMost old new

-- the systems in one place may have changed so, and all others are as they were
pub record ChangeAt (Changed : Systems → Systems → Type 0) (i : ℕ) (old new : List Systems) : Type 0 where
  pub count : length new ≡ length old
  pub there : (d : Systems) → i < length old → Changed (slice_index_or old i d) (slice_index_or new i d)
  pub others : (j : ℕ) (d : Systems) → j ≢ i → slice_index_or new j d ≡ slice_index_or old j d

-- the systems of the first n clients may have been built, and all others are as they were
pub record StartsOnly (n : ℕ) (old new : List Systems) : Type 0 where
  pub count : length new ≡ length old
  pub there : (i : ℕ) (d : Systems) → i < n → i < length old → AreBuiltOnceAtMost (slice_index_or old i d) (slice_index_or new i d)
  pub others : (i : ℕ) (d : Systems) → n ≤ i → slice_index_or new i d ≡ slice_index_or old i d

-- What becomes of a client that makes a step beside the server and the pipes: the facts of each call by name. A clause passes
-- ⟦<dyn System as System>⟧ for `sys`.

-- ---- before

-- a client may act that may be called, and whose number the server knows
pub record MayActBy {Y X : Type 0} {G : Y → Type 0} {F : X → Type 0} {M : _} (meaning : (i : X) → F i → Meaning) (c : ℕ) (own : Client Y X G F M)
    (held : Held) : Type 0 where
  pub sound : IsSoundAt own.setup.now own.number own.stage own.board meaning
  pub client : IsClient held.server c

-- it may hear what is sent to it, where the two stand beside a session with valid states
pub record MayHearBy {Y X : Type 0} {G : Y → Type 0} {F : X → Type 0} {M : _} (meaning : (i : X) → F i → Meaning) (c : ℕ) (own : Client Y X G F M)
    (held : Held) : Type 0 where
  pub acts : MayActBy meaning c own held
  pub some : (s : Session) × HasValidStates (setup_in own) c s × StandBeside (setup_in own) c (life own) held s

-- ---- behind

-- A client that makes this step, or nothing, which takes no memory. Where there was memory it is sound again. However that ends, none of its
-- systems was built since, and its match and the rules of the server are the same.
pub record ActsBy {Y X : Type 0} {G : Y → Type 0} {F : X → Type 0} {M : _} {E : Type 0} (meaning : (i : X) → F i → Meaning) (x : Step) (Nothing : Type 0)
    (result : Result (List Event) E) (old : Client Y X G F M) (before : Held) (new : Client Y X G F M) (behind : Held) : Type 0 where
  pub made : IfOk result (λ events. Makes (setup_in old) x (life old) before (life new) behind events)
  pub idle : Nothing → IsOk result
  pub sound : OnOk result (IsSoundAt new.setup.now new.number new.stage new.board meaning)
  pub kept : AreKept (systems_on old.board meaning) (systems_on new.board meaning)
  pub setup : setup_in new ≡ setup_in old
  pub rules : behind.server.rules ≡ before.server.rules

-- A client that makes a step in which it may load a state. Its systems are built once at most where it does, also where memory was refused, and
-- else not at all. All else is as above.
pub record LoadsBy {Y X : Type 0} {G : Y → Type 0} {F : X → Type 0} {M : _} {E : Type 0} (meaning : (i : X) → F i → Meaning) (x : Step)
    (result : Result (List Event) E) (old : Client Y X G F M) (before : Held) (new : Client Y X G F M) (behind : Held) : Type 0 where
  pub made : IfOk result (λ events. Makes (setup_in old) x (life old) before (life new) behind events)
  pub sound : OnOk result (IsSoundAt new.setup.now new.number new.stage new.board meaning)
  pub built : IfOk result (λ events. AreBuiltIf (has_load events) (systems_on old.board meaning) (systems_on new.board meaning))
  pub most : AreBuilt (systems_on old.board meaning) (systems_on new.board meaning)
  pub loads : (s : Session) → StandBeside (setup_in old) (client_of x) (life old) before s
      → AreBuiltIf (has_load (events_by (setup_in old) s x)) (systems_on old.board meaning) (systems_on new.board meaning)
  pub setup : setup_in new ≡ setup_in old
  pub rules : behind.server.rules ≡ before.server.rules

-- ---- the same, as a clause has them

abbrev pub MayAct : {Y X : Type 0} {G : Y → Type 0} {F : X → Type 0} {M : _} → ((i : X) → Ghosts (F i)) → ℕ → Client Y X G F M → Held → Type 0
MayAct sys c own held = MayActBy (λ i v. (sys i).meaning v) c own held

abbrev pub MayHear : {Y X : Type 0} {G : Y → Type 0} {F : X → Type 0} {M : _} → ((i : X) → Ghosts (F i)) → ℕ → Client Y X G F M → Held → Type 0
MayHear sys c own held = MayHearBy (λ i v. (sys i).meaning v) c own held

abbrev pub Acts : {Y X : Type 0} {G : Y → Type 0} {F : X → Type 0} {M : _} {E : Type 0} → ((i : X) → Ghosts (F i)) → Step → Type 0 → Result (List Event) E
    → Client Y X G F M → Held → Client Y X G F M → Held → Type 0
Acts sys x Nothing result old before new behind = ActsBy (λ i v. (sys i).meaning v) x Nothing result old before new behind

abbrev pub Loads : {Y X : Type 0} {G : Y → Type 0} {F : X → Type 0} {M : _} {E : Type 0} → ((i : X) → Ghosts (F i)) → Step → Result (List Event) E
    → Client Y X G F M → Held → Client Y X G F M → Held → Type 0
Loads sys x result old before new behind = LoadsBy (λ i v. (sys i).meaning v) x result old before new behind
