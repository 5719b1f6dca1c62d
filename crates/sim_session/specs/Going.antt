-- What becomes of a session and of the rigs of its clients: the facts of each call by name. A clause passes ⟦<dyn System as System>⟧ for `sys`.
use Rattle.sim_client.specs.ClientWords as client
use Rattle.sim_system.specs.RigWords as rig
use Rattle.{sim_base.specs.{declared.{setup.Setup.Setup, step.{Event.Event, Step.Step}}, Limits.IsSetup}, sim_client.specs.declared.client.Client.Client}
use Rattle.{sim_client.specs.{Lives.Life, StageWords.{AreCleared, AreOf, IsSoundAt, nowhere, systems_on}}, sim_lists.specs.declared.step_list.StepList.StepList}
use Rattle.{sim_lists.specs.StepLists.IsStepList, sim_session.specs.{declared.session.Session.Session, Laws.{AllBuiltAtMost, builds_of, session_of}}}
use Rattle.sim_session.specs.Standing.{AreBuilt, AreBuiltIf, ChangeAt, has_load, IsIdle, life_of, Seen, StandsFor, StandsForSome}
use Rattle.sim_system.specs.{declared.{rig.Rig.Rig, system.System.Ghosts}, Meanings.{HaveKinds, Meaning, Systems}}
use Rattle.std.specs.Prelude.{All, drop, IfOk, IsOk, length, List, map, OnOk, Result, slice_index_or, Vec, vec_capacity, ℕ, ◌++◌, ◌+◌, ◌-◌, ◌<◌, ◌≡◌, ◌≤◌}
use Rattle.sim_plain_session.specs.Sessions.{client_of, events, opened, session as session_over}

-- What a session is to its callers. A clause passes ⟦<dyn System as System>⟧ for `sys`; words that take the meaning of a system in
-- its place are for proofs.

-- ---- rigs

-- the systems of rigs
abbrev pub rigs_by : {X : Type 0} {F : X → Type 0} → List (Rig X F) → ((i : X) → F i → Meaning) → List Systems
rigs_by rigs meaning = map (λ r. rig.systems_by r meaning) rigs

-- the same, as a clause has it
abbrev pub rigs_of : {X : Type 0} {F : X → Type 0} → List (Rig X F) → ((i : X) → Ghosts (F i)) → List Systems
rigs_of rigs sys = rigs_by rigs (λ i v. (sys i).meaning v)

-- ---- clients

-- what clients are, client 1 first
abbrev pub lives_of : {Y X : Type 0} {G : Y → Type 0} {F : X → Type 0} {M : _} → List (Client Y X G F M) → List Life
lives_of clients = map (λ c. client.life c) clients

-- their systems
abbrev pub systems_by : {Y X : Type 0} {G : Y → Type 0} {F : X → Type 0} {M : _} → List (Client Y X G F M) → ((i : X) → F i → Meaning) → List Systems
systems_by clients meaning = map (λ c. systems_on c.board meaning) clients

-- the same, as a clause has it
abbrev pub systems_of : {Y X : Type 0} {G : Y → Type 0} {F : X → Type 0} {M : _} → List (Client Y X G F M) → ((i : X) → Ghosts (F i)) → List Systems
systems_of clients sys = systems_by clients (λ i v. (sys i).meaning v)

-- a client of this match, which may be called
pub record IsMemberBy {Y X : Type 0} {G : Y → Type 0} {F : X → Type 0} {M : _} (setup : Setup) (c : Client Y X G F M) (meaning : (i : X) → F i → Meaning) :
    Type 0 where
  pub sound : IsSoundAt c.setup.now c.number c.stage c.board meaning
  pub same : c.setup.now ≡ setup

-- all are such clients
abbrev pub AreMembersBy : {Y X : Type 0} {G : Y → Type 0} {F : X → Type 0} {M : _} → Setup → List (Client Y X G F M) → ((i : X) → F i → Meaning) → Type 0
AreMembersBy setup clients meaning = All (λ c. IsMemberBy setup c meaning) clients

-- the same, as a clause has it
abbrev pub AreMembers : {Y X : Type 0} {G : Y → Type 0} {F : X → Type 0} {M : _} → Setup → List (Client Y X G F M) → ((i : X) → Ghosts (F i)) → Type 0
AreMembers setup clients sys = AreMembersBy setup clients (λ i v. (sys i).meaning v)

-- ---- the session

-- the match
abbrev pub setup_in : {Y X : Type 0} {G : Y → Type 0} {F : X → Type 0} {M : _} → Session Y X G F M → Setup
setup_in session = session.setup.now

-- its clients, client 1 first
abbrev pub clients_in : {Y X : Type 0} {G : Y → Type 0} {F : X → Type 0} {M : _} → Session Y X G F M → List (Client Y X G F M)
clients_in session = session.clients.items

-- what contracts see of it
abbrev pub seen_in : {Y X : Type 0} {G : Y → Type 0} {F : X → Type 0} {M : _} → Session Y X G F M → Seen
seen_in session = record { lives = lives_of session.clients.items; held = session.exchange }

-- the systems of its clients, client 1 first
abbrev pub systems_in : {Y X : Type 0} {G : Y → Type 0} {F : X → Type 0} {M : _} → Session Y X G F M → ((i : X) → Ghosts (F i)) → List Systems
systems_in session sys = systems_of session.clients.items sys

-- the rigs that have no client
abbrev pub spare_in : {Y X : Type 0} {G : Y → Type 0} {F : X → Type 0} {M : _} → Session Y X G F M → List (Rig X F)
spare_in session = session.rigs.items

-- how many rigs fit the room in which they came
abbrev pub room_in : {Y X : Type 0} {G : Y → Type 0} {F : X → Type 0} {M : _} → Session Y X G F M → ℕ
room_in session = vec_capacity session.rigs

-- each system of a client is in its place, and there is room for all rigs: it may be finished
pub record MayFinishBy {Y X : Type 0} {G : Y → Type 0} {F : X → Type 0} {M : _} (session : Session Y X G F M) (meaning : (i : X) → F i → Meaning) : Type 0 where
  pub kinds : All HaveKinds (systems_by session.clients.items meaning)
  pub room : length session.clients.items + length session.rigs.items ≤ vec_capacity session.rigs

-- its clients may be called, and there are as many as the match has players, also to the server: a step may be made
pub record IsSessionBy {Y X : Type 0} {G : Y → Type 0} {F : X → Type 0} {M : _} (session : Session Y X G F M) (meaning : (i : X) → F i → Meaning) : Type 0 where
  pub limits : IsSetup session.setup.now
  pub members : AreMembersBy session.setup.now session.clients.items meaning
  pub count : length session.clients.items ≡ session.setup.now.players
  pub served : session.exchange.server.rules.clients ≡ session.setup.now.players
  pub finish : MayFinishBy session meaning

-- the same two, as a clause has them
abbrev pub MayFinish : {Y X : Type 0} {G : Y → Type 0} {F : X → Type 0} {M : _} → Session Y X G F M → ((i : X) → Ghosts (F i)) → Type 0
MayFinish session sys = MayFinishBy session (λ i v. (sys i).meaning v)

abbrev pub IsSession : {Y X : Type 0} {G : Y → Type 0} {F : X → Type 0} {M : _} → Session Y X G F M → ((i : X) → Ghosts (F i)) → Type 0
IsSession session sys = IsSessionBy session (λ i v. (sys i).meaning v)

-- the systems of each client that is on stand for its state, and those of any other have forgotten all
abbrev pub AreOfClients : Setup → List Life → List Systems → Type 0
AreOfClients setup lives systems = (c : ℕ) → 0 < c → c ≤ setup.players → AreOf setup (life_of lives c) (slice_index_or systems (c - 1) nowhere)

-- ---- rigs

-- the systems of rigs are in their places, and have forgotten all
pub record AreFreshBy {X : Type 0} {F : X → Type 0} (meaning : (i : X) → F i → Meaning) (rigs : List (Rig X F)) : Type 0 where
  pub kinds : All HaveKinds (rigs_by rigs meaning)
  pub cleared : All AreCleared (rigs_by rigs meaning)

-- a session of a match may begin with eight such rigs
pub record MayBeginBy {X : Type 0} {F : X → Type 0} (meaning : (i : X) → F i → Meaning) (setup : Setup) (rigs : List (Rig X F)) : Type 0 where
  pub limits : IsSetup setup
  pub eight : length rigs ≡ 8
  pub fresh : AreFreshBy meaning rigs

-- Rigs of which clients of a match were made: these rigs are left, the systems of clients and of these are those, and the clients are that.
pub record SeatsBy {Y X : Type 0} {G : Y → Type 0} {F : X → Type 0} {M : _} {A : Type 0} (meaning : (i : X) → F i → Meaning) (setup : Setup)
    (rest : List (Rig X F)) (all : List Systems) (lives : List Life) (clients : List (Client Y X G F M)) (old new : Vec (Rig X F) A) : Type 0 where
  pub rigs : new.items ≡ rest
  pub systems : systems_by clients meaning ++ rigs_by new.items meaning ≡ all
  pub members : AreMembersBy setup clients meaning
  pub off : lives_of clients ≡ lives
  pub kept : vec_capacity new ≡ vec_capacity old

-- all rigs are back in their room, each system in its place, and those without a client are as they came
pub record ComeBackBy {X : Type 0} {F : X → Type 0} {A : Type 0} (meaning : (i : X) → F i → Meaning) (setup : Setup) (old new : Vec (Rig X F) A) :
    Type 0 where
  pub kinds : All HaveKinds (rigs_by new.items meaning)
  pub spare : drop setup.players new.items ≡ drop setup.players old.items
  pub eight : length new.items ≡ 8
  pub room : vec_capacity new ≡ vec_capacity old

-- so they are, and those of a client were built at most as often as these steps ask for
pub record ComeBackBuiltBy {X : Type 0} {F : X → Type 0} {A : Type 0} (meaning : (i : X) → F i → Meaning) (setup : Setup) (list : StepList)
    (old new : Vec (Rig X F) A) : Type 0 where
  pub built : AllBuiltAtMost (builds_of setup list) setup.players (rigs_by old.items meaning) (rigs_by new.items meaning)
  pub back : ComeBackBy meaning setup old new

-- ---- sessions before a call

-- it may be called, and stands for that over some steps
pub record IsOnBy {Y X : Type 0} {G : Y → Type 0} {F : X → Type 0} {M : _} (meaning : (i : X) → F i → Meaning) (own : Session Y X G F M) :
    Type 0 where
  pub session : IsSessionBy own meaning
  pub some : StandsForSome (setup_in own) (seen_in own)

-- it has come to its beginning with so many clients, and this is how many there may be
pub record HasOpenedBy {Y X : Type 0} {G : Y → Type 0} {F : X → Type 0} {M : _} (meaning : (i : X) → F i → Meaning) (begun most : ℕ)
    (own : Session Y X G F M) : Type 0 where
  pub session : IsSessionBy own meaning
  pub clients : most ≤ (setup_in own).players
  pub opened : StandsFor (setup_in own) (seen_in own) (opened (setup_in own) begun)

-- it has come to its beginning with so many clients, and this is a list of its steps
pub record MayPassBy {Y X : Type 0} {G : Y → Type 0} {F : X → Type 0} {M : _} (meaning : (i : X) → F i → Meaning) (begun : ℕ) (steps : StepList)
    (own : Session Y X G F M) : Type 0 where
  pub session : IsSessionBy own meaning
  pub list : IsStepList (setup_in own).players steps
  pub opened : StandsFor (setup_in own) (seen_in own) (opened (setup_in own) begun)

-- ---- and behind it

-- however a call ends, it may be finished, and its match, the rigs without a client, the room of all and how many clients there are stay the same
pub record KeepsBy {Y X : Type 0} {G : Y → Type 0} {F : X → Type 0} {M : _} (meaning : (i : X) → F i → Meaning) (old new : Session Y X G F M) :
    Type 0 where
  pub finish : MayFinishBy new meaning
  pub setup : setup_in new ≡ setup_in old
  pub spare : spare_in new ≡ spare_in old
  pub room : room_in new ≡ room_in old
  pub count : length (clients_in new) ≡ length (clients_in old)

-- with memory it may be called again
pub record GoesOnBy {Y X : Type 0} {G : Y → Type 0} {F : X → Type 0} {M : _} {A E : Type 0} (meaning : (i : X) → F i → Meaning) (result : Result A E)
    (old new : Session Y X G F M) : Type 0 where
  pub session : OnOk result (IsSessionBy new meaning)
  pub keeps : KeepsBy meaning old new

-- What a step takes. Only a state that is loaded builds the systems of its client, also where memory was refused; and a step that is not
-- enabled takes no memory.
pub record TakesBy {Y X : Type 0} {G : Y → Type 0} {F : X → Type 0} {M : _} {E : Type 0} (meaning : (i : X) → F i → Meaning) (x : Step)
    (result : Result (List Event) E) (old new : Session Y X G F M) : Type 0 where
  pub built : IfOk result (λ events. ChangeAt (AreBuiltIf (has_load events)) (client_of x - 1) (systems_by old.clients.items meaning)
      (systems_by new.clients.items meaning))
  pub most : ChangeAt AreBuilt (client_of x - 1) (systems_by old.clients.items meaning) (systems_by new.clients.items meaning)
  pub loads : (active : ℕ) (steps : List Step) → active ≤ (setup_in old).players → StandsFor (setup_in old) (seen_in old)
      (session_over (setup_in old) active steps)
      → ChangeAt (AreBuiltIf (has_load (events (setup_in old) (session_over (setup_in old) active steps) x))) (client_of x - 1)
      (systems_by old.clients.items meaning) (systems_by new.clients.items meaning)
  pub idle : (active : ℕ) (steps : List Step) → active ≤ (setup_in old).players → StandsFor (setup_in old) (seen_in old)
      (session_over (setup_in old) active steps)
      → IsIdle (setup_in old) (session_over (setup_in old) active steps) x → IsOk result

-- It goes through the steps of a list, and stands then for the session over them. However that ends, the systems of each client were built at
-- most so often.
pub record PassesBy {Y X : Type 0} {G : Y → Type 0} {F : X → Type 0} {M : _} {A E : Type 0} (meaning : (i : X) → F i → Meaning) (list : StepList)
    (most : ℕ → ℕ) (result : Result A E) (old new : Session Y X G F M) : Type 0 where
  pub stands : OnOk result (StandsFor (setup_in old) (seen_in new) (session_of (setup_in old) list))
  pub built : AllBuiltAtMost most (setup_in old).players (systems_by old.clients.items meaning) (systems_by new.clients.items meaning)
  pub goes : GoesOnBy meaning result old new

-- ---- the same, as a clause has them

abbrev pub AreFresh : {X : Type 0} {F : X → Type 0} → ((i : X) → Ghosts (F i)) → List (Rig X F) → Type 0
AreFresh sys rigs = AreFreshBy (λ i v. (sys i).meaning v) rigs

abbrev pub MayBegin : {X : Type 0} {F : X → Type 0} → ((i : X) → Ghosts (F i)) → Setup → List (Rig X F) → Type 0
MayBegin sys setup rigs = MayBeginBy (λ i v. (sys i).meaning v) setup rigs

abbrev pub Seats : {Y X : Type 0} {G : Y → Type 0} {F : X → Type 0} {M : _} {A : Type 0} → ((i : X) → Ghosts (F i)) → Setup → List (Rig X F) → List Systems
    → List Life → List (Client Y X G F M) → Vec (Rig X F) A → Vec (Rig X F) A → Type 0
Seats sys setup rest all lives clients old new = SeatsBy (λ i v. (sys i).meaning v) setup rest all lives clients old new

abbrev pub ComeBack : {X : Type 0} {F : X → Type 0} {A : Type 0} → ((i : X) → Ghosts (F i)) → Setup → Vec (Rig X F) A → Vec (Rig X F) A → Type 0
ComeBack sys setup old new = ComeBackBy (λ i v. (sys i).meaning v) setup old new

abbrev pub ComeBackBuilt : {X : Type 0} {F : X → Type 0} {A : Type 0} → ((i : X) → Ghosts (F i)) → Setup → StepList → Vec (Rig X F) A → Vec (Rig X F) A
    → Type 0
ComeBackBuilt sys setup list old new = ComeBackBuiltBy (λ i v. (sys i).meaning v) setup list old new

abbrev pub IsOn : {Y X : Type 0} {G : Y → Type 0} {F : X → Type 0} {M : _} → ((i : X) → Ghosts (F i)) → Session Y X G F M → Type 0
IsOn sys session = IsOnBy (λ i v. (sys i).meaning v) session

abbrev pub HasOpened : {Y X : Type 0} {G : Y → Type 0} {F : X → Type 0} {M : _} → ((i : X) → Ghosts (F i)) → ℕ → ℕ → Session Y X G F M → Type 0
HasOpened sys begun clients session = HasOpenedBy (λ i v. (sys i).meaning v) begun clients session

abbrev pub MayPass : {Y X : Type 0} {G : Y → Type 0} {F : X → Type 0} {M : _} → ((i : X) → Ghosts (F i)) → ℕ → StepList → Session Y X G F M → Type 0
MayPass sys begun list session = MayPassBy (λ i v. (sys i).meaning v) begun list session

abbrev pub Keeps : {Y X : Type 0} {G : Y → Type 0} {F : X → Type 0} {M : _} → ((i : X) → Ghosts (F i)) → Session Y X G F M → Session Y X G F M → Type 0
Keeps sys old new = KeepsBy (λ i v. (sys i).meaning v) old new

abbrev pub GoesOn : {Y X : Type 0} {G : Y → Type 0} {F : X → Type 0} {M : _} {A E : Type 0} → ((i : X) → Ghosts (F i)) → Result A E → Session Y X G F M
    → Session Y X G F M → Type 0
GoesOn sys result old new = GoesOnBy (λ i v. (sys i).meaning v) result old new

abbrev pub Takes : {Y X : Type 0} {G : Y → Type 0} {F : X → Type 0} {M : _} {E : Type 0} → ((i : X) → Ghosts (F i)) → Step → Result (List Event) E
    → Session Y X G F M → Session Y X G F M → Type 0
Takes sys x result old new = TakesBy (λ i v. (sys i).meaning v) x result old new

abbrev pub Passes : {Y X : Type 0} {G : Y → Type 0} {F : X → Type 0} {M : _} {A E : Type 0} → ((i : X) → Ghosts (F i)) → StepList → (ℕ → ℕ) → Result A E
    → Session Y X G F M → Session Y X G F M → Type 0
Passes sys list most result old new = PassesBy (λ i v. (sys i).meaning v) list most result old new
