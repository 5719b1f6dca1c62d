-- What a client is to its callers. A clause passes ⟦<dyn System as System>⟧ for `sys`.
use Rattle.sim_client.specs.declared.did.Did.TheVariants as did
use Rattle.sim_plain.specs.declared.message.DownOf.TheVariants as down
use Rattle.sim_base.specs.{declared.{memory.OutOfMemory.OutOfMemory, setup.Setup.Setup, state.State.State}, Spelling.{digest, mark}}
use Rattle.sim_board.specs.{Boards.AreKept, declared.board.Board.Board}
use Rattle.sim_client.specs.{declared.{client.Client.Client, did.{Did.Did, Played.Played}, stage.Seat.Seat}, Lives.{Act, hears, Joining, Life, may_play, Off}}
use Rattle.{sim_client.specs.{Lives.{On, plays, Told}, StageWords.{IsPlayingBy, IsSoundAt, life_at, player_at, systems_on}}, sim_codec.specs.Loading.StandsFor}
use Rattle.sim_system.specs.{declared.system.System.Ghosts, Meanings.{AreBuiltOnceAtMost, HaveKinds, Meaning, Systems}, RigWords.systems_by}
use Rattle.std.specs.Prelude.{Bool, Err, false, IsOk, List, None, Ok, OnOk, Option, Result, Some, true, ℕ, ◌≡◌}

-- the match that it takes part in
abbrev pub setup_in : {Y X : Type 0} {G : Y → Type 0} {F : X → Type 0} {M : _} → Client Y X G F M → Setup
setup_in client = client.setup.now

-- the number of the player for whom it acts
abbrev pub number_in : {Y X : Type 0} {G : Y → Type 0} {F : X → Type 0} {M : _} → Client Y X G F M → ℕ
number_in client = client.number

-- what it is
abbrev pub life : {Y X : Type 0} {G : Y → Type 0} {F : X → Type 0} {M : _} → Client Y X G F M → Life
life client = life_at client.stage client.board

-- the meanings of its systems
abbrev pub systems : {Y X : Type 0} {G : Y → Type 0} {F : X → Type 0} {M : _} → Client Y X G F M → ((i : X) → Ghosts (F i)) → Systems
systems client sys = systems_on client.board (λ i v. (sys i).meaning v)

-- what every call may count on, as long as none has wanted memory
abbrev pub IsSound : {Y X : Type 0} {G : Y → Type 0} {F : X → Type 0} {M : _} → Client Y X G F M → ((i : X) → Ghosts (F i)) → Type 0
IsSound client sys = IsSoundAt client.setup.now client.number client.stage client.board (λ i v. (sys i).meaning v)

-- the state of a client that is on
abbrev pub state_of : Life → Option State
state_of Off = None
state_of Joining = None
state_of (On player) = Some player.state

-- its turn
abbrev pub turn_of : Life → Option ℕ
turn_of Off = None
turn_of Joining = None
turn_of (On player) = Some player.state.turn

-- the digest of its state
abbrev pub digest_of : Setup → Life → Option (List ℕ)
digest_of setup Off = None
digest_of setup Joining = None
digest_of setup (On player) = Some (digest setup player.state)

-- what it reports of its state
abbrev pub mark_of : Setup → Life → Option (List ℕ)
mark_of setup Off = None
mark_of setup Joining = None
mark_of setup (On player) = Some (mark setup player.state)

-- it waits for a state
abbrev pub is_joining : Life → Bool
is_joining Off = false
is_joining Joining = true
is_joining (On player) = false

-- a call answers Idle exactly where nothing happens; where something does, the client becomes that and says that, or memory was refused
abbrev pub Answers : Option Act → Life → Result Did OutOfMemory → Life → Type 0
Answers None old (Ok did.Idle) new = new ≡ old
Answers None old (Ok (did.Done ups)) new = ⊥
Answers None old (Err e) new = Unit {0}
Answers (Some act) old (Ok did.Idle) new = ⊥
Answers (Some act) old (Ok (did.Done ups)) new = (new ≡ act.life) × (ups ≡ act.says)
Answers (Some act) old (Err e) new = Unit {0}

-- what a client did that was to play a turn
abbrev pub did_in : Result Played OutOfMemory → Result Did OutOfMemory
did_in (Ok played) = Ok played.did
did_in (Err e) = Err e

-- the digest beside what it did is that of its state, if it did anything
abbrev pub HasDigest : Setup → Life → Did → Option (List ℕ) → Type 0
HasDigest setup now did.Idle shown = Unit {0}
HasDigest setup now (did.Done ups) shown = shown ≡ digest_of setup now

-- the same of a call that takes no memory
abbrev pub Tells : Option Act → Life → Bool → Life → Type 0
Tells None old told new = (told ≡ false) × (new ≡ old)
Tells (Some act) old told new = (told ≡ true) × (new ≡ act.life)

-- bytes load as this state, if any
abbrev pub LoadsAt : Setup → List ℕ → Option State → Type 0
LoadsAt setup bytes None = (state : State) → StandsFor setup bytes state → ⊥
LoadsAt setup bytes (Some state) = StandsFor setup bytes state

-- so do those of a message that has the bytes of one
abbrev pub LoadsFrom : Setup → Told → Option State → Type 0
LoadsFrom setup (down.Ask client) loaded = Unit {0}
LoadsFrom setup (down.State done bytes) loaded = LoadsAt setup bytes loaded
LoadsFrom setup (down.Command turn order) loaded = Unit {0}
LoadsFrom setup (down.Release turn) loaded = Unit {0}
LoadsFrom setup (down.Notice turn client) loaded = Unit {0}
LoadsFrom setup (down.Refused code) loaded = Unit {0}

-- a message has bytes in place of those of a state
abbrev pub HasNoState : Setup → Told → Type 0
HasNoState setup (down.Ask client) = ⊥
HasNoState setup (down.State done bytes) = LoadsAt setup bytes None
HasNoState setup (down.Command turn order) = ⊥
HasNoState setup (down.Release turn) = ⊥
HasNoState setup (down.Notice turn client) = ⊥
HasNoState setup (down.Refused code) = ⊥

-- a state is heard by a client that waits for one
abbrev pub may_load : Life → Told → Bool
may_load Off said = false
may_load (On player) said = false
may_load Joining (down.Ask client) = false
may_load Joining (down.State done bytes) = true
may_load Joining (down.Command turn order) = false
may_load Joining (down.Release turn) = false
may_load Joining (down.Notice turn client) = false
may_load Joining (down.Refused code) = false

-- nothing happened
abbrev pub is_idle : Result Did OutOfMemory → Bool
is_idle (Ok did.Idle) = true
is_idle (Ok (did.Done ups)) = false
is_idle (Err e) = false

-- a client hears this without taking memory
abbrev pub NeedsNoMemory : Life → Told → Type 0
NeedsNoMemory Off said = Unit {0}
NeedsNoMemory Joining (down.Ask client) = Unit {0}
NeedsNoMemory Joining (down.State done bytes) = ⊥
NeedsNoMemory Joining (down.Command turn order) = Unit {0}
NeedsNoMemory Joining (down.Release turn) = Unit {0}
NeedsNoMemory Joining (down.Notice turn client) = Unit {0}
NeedsNoMemory Joining (down.Refused code) = Unit {0}
NeedsNoMemory (On player) (down.Ask client) = ⊥
NeedsNoMemory (On player) (down.State done bytes) = Unit {0}
NeedsNoMemory (On player) (down.Command turn order) = ⊥
NeedsNoMemory (On player) (down.Release turn) = Unit {0}
NeedsNoMemory (On player) (down.Notice turn client) = Unit {0}
NeedsNoMemory (On player) (down.Refused code) = Unit {0}

-- ---- what becomes of a client, the facts of each call by name

-- A board that plays its next turn and tells it, if it may; where it may not, that takes no memory. With memory it may be played on again, and
-- however that ends, none of its systems was built since.
pub record PlaysBy {X : Type 0} {F : X → Type 0} (meaning : (i : X) → F i → Meaning) (setup : Setup) (result : Result Did OutOfMemory)
    (old : Board X F) (seat : Seat) (new : Board X F) (now : Seat) : Type 0 where
  pub answers : Answers (plays setup (On (player_at old.state seat))) (On (player_at old.state seat)) result (On (player_at new.state now))
  pub playing : OnOk result (IsPlayingBy setup new now meaning)
  pub idle : may_play setup (player_at old.state seat) ≡ false → IsOk result
  pub kept : AreKept (systems_by old.rig meaning) (systems_by new.rig meaning)

-- however a call ends, none of its systems was built since, and its match and its number are the same
pub record KeepsBy {Y X : Type 0} {G : Y → Type 0} {F : X → Type 0} {M : _} (meaning : (i : X) → F i → Meaning) (old new : Client Y X G F M) : Type 0 where
  pub kept : AreKept (systems_on old.board meaning) (systems_on new.board meaning)
  pub setup : setup_in new ≡ setup_in old
  pub number : number_in new ≡ number_in old

-- A step that comes to this, or to nothing, which takes no memory. Where there was memory the client is sound again.
pub record StepsBy {Y X : Type 0} {G : Y → Type 0} {F : X → Type 0} {M : _} (meaning : (i : X) → F i → Meaning) (act : Option Act)
    (result : Result Did OutOfMemory)
    (old new : Client Y X G F M) : Type 0 where
  pub answers : Answers act (life old) result (life new)
  pub idle : act ≡ None → IsOk result
  pub sound : OnOk result (IsSoundAt new.setup.now new.number new.stage new.board meaning)
  pub keeps : KeepsBy meaning old new

-- A client that begins at a state, or may do so, is sound again with memory. However that ends, its systems are in their places, each was
-- built once at most, and its match and its number are the same.
pub record BuildsBy {Y X : Type 0} {G : Y → Type 0} {F : X → Type 0} {M : _} {A E : Type 0} (meaning : (i : X) → F i → Meaning) (result : Result A E)
    (old new : Client Y X G F M) : Type 0 where
  pub sound : OnOk result (IsSoundAt new.setup.now new.number new.stage new.board meaning)
  pub kinds : HaveKinds (systems_on new.board meaning)
  pub most : AreBuiltOnceAtMost (systems_on old.board meaning) (systems_on new.board meaning)
  pub setup : setup_in new ≡ setup_in old
  pub number : number_in new ≡ number_in old

-- it is this, where there was memory to begin
pub record BeginsBy {Y X : Type 0} {G : Y → Type 0} {F : X → Type 0} {M : _} {A E : Type 0} (meaning : (i : X) → F i → Meaning) (wanted : Life)
    (result : Result A E)
    (old new : Client Y X G F M) : Type 0 where
  pub begins : OnOk result (life new ≡ wanted)
  pub ends : BuildsBy meaning result old new

-- it is sound, and waits for a state
pub record WaitsBy {Y X : Type 0} {G : Y → Type 0} {F : X → Type 0} {M : _} (meaning : (i : X) → F i → Meaning) (client : Client Y X G F M) : Type 0 where
  pub sound : IsSoundAt client.setup.now client.number client.stage client.board meaning
  pub joining : life client ≡ Joining

-- What comes of a message, for a client that was this. Nothing takes memory but to load a state, to hand one on and to know a command, and
-- bytes of no state take none. Systems are built only where a state is loaded.
pub record HearsBy {Y X : Type 0} {G : Y → Type 0} {F : X → Type 0} {M : _} (meaning : (i : X) → F i → Meaning) (was : Life) (said : Told)
    (result : Result Did OutOfMemory)
    (old new : Client Y X G F M) : Type 0 where
  pub answers : (loaded : Option State) → LoadsFrom (setup_in old) said loaded → Answers (hears (setup_in old) loaded said was) was result (life new)
  pub idle : may_load was said ≡ false → hears (setup_in old) None said was ≡ None → IsOk result
  pub sure : NeedsNoMemory was said → IsOk result
  pub stateless : HasNoState (setup_in old) said → IsOk result
  pub kept : may_load was said ≡ false → AreKept (systems_on old.board meaning) (systems_on new.board meaning)
  pub unloaded : is_idle result ≡ true → AreKept (systems_on old.board meaning) (systems_on new.board meaning)
  pub ends : BuildsBy meaning result old new

-- the same, as a clause has them
abbrev pub Plays : {X : Type 0} {F : X → Type 0} → ((i : X) → Ghosts (F i)) → Setup → Result Did OutOfMemory → Board X F → Seat → Board X F → Seat → Type 0
Plays sys setup result old seat new now = PlaysBy (λ i v. (sys i).meaning v) setup result old seat new now

abbrev pub Keeps : {Y X : Type 0} {G : Y → Type 0} {F : X → Type 0} {M : _} → ((i : X) → Ghosts (F i)) → Client Y X G F M → Client Y X G F M → Type 0
Keeps sys old new = KeepsBy (λ i v. (sys i).meaning v) old new

abbrev pub Steps : {Y X : Type 0} {G : Y → Type 0} {F : X → Type 0} {M : _} → ((i : X) → Ghosts (F i)) → Option Act → Result Did OutOfMemory
    → Client Y X G F M → Client Y X G F M → Type 0
Steps sys act result old new = StepsBy (λ i v. (sys i).meaning v) act result old new

abbrev pub Builds : {Y X : Type 0} {G : Y → Type 0} {F : X → Type 0} {M : _} {A E : Type 0} → ((i : X) → Ghosts (F i)) → Result A E → Client Y X G F M
    → Client Y X G F M → Type 0
Builds sys result old new = BuildsBy (λ i v. (sys i).meaning v) result old new

abbrev pub Begins : {Y X : Type 0} {G : Y → Type 0} {F : X → Type 0} {M : _} {A E : Type 0} → ((i : X) → Ghosts (F i)) → Life → Result A E
    → Client Y X G F M → Client Y X G F M → Type 0
Begins sys wanted result old new = BeginsBy (λ i v. (sys i).meaning v) wanted result old new

abbrev pub Waits : {Y X : Type 0} {G : Y → Type 0} {F : X → Type 0} {M : _} → ((i : X) → Ghosts (F i)) → Client Y X G F M → Type 0
Waits sys client = WaitsBy (λ i v. (sys i).meaning v) client

abbrev pub Hears : {Y X : Type 0} {G : Y → Type 0} {F : X → Type 0} {M : _} → ((i : X) → Ghosts (F i)) → Life → Told → Result Did OutOfMemory
    → Client Y X G F M → Client Y X G F M → Type 0
Hears sys was said result old new = HearsBy (λ i v. (sys i).meaning v) was said result old new
