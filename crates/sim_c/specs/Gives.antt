-- How a call puts its answer where C wants it: the status, and what it has written. What is not named is as it was.
use Rattle.sim_codec.specs.declared.fault.StateFault.TheVariants as faults
use Rattle.sim_embed.specs.declared.refused.Refused.TheVariants as causes
use Rattle.sim_held.specs.declared.stage.Went.TheVariants as went
use Rattle.sim_held.specs.declared.held.Held.TheVariants as held
use Rattle.sim_base.specs.declared.{memory.OutOfMemory.OutOfMemory, setup.Setup.Setup, state.State.State}
use Rattle.sim_held.specs.{Clients.ClientView, Clients.LooksAt, Clients.LooksAtClient, Games.GameView, Servers.ServerView, declared.held.Held.Held}
use Rattle.std.specs.Prelude.{Bool, drop, Err, false, IfErr, IfOk, if◌then◌else◌, length, List, nat_le, None, Ok, Option, pos, Result, Some, true, ℕ, ℤ, ◌++◌}
use Rattle.{sim_c.specs.declared.status.Fault.Fault, sim_codec.specs.declared.fault.StateFault.StateFault, sim_diff.specs.Difference.number_of}
use Rattle.{sim_diff.specs.declared.place.Place.Place, sim_embed.specs.declared.refused.Refused.Refused, sim_embed.specs.declared.stored.Stamp.Stamp}
use Rattle.{sim_embed.specs.declared.stored.Stored.Stored, sim_held.specs.declared.stage.Went.Went, std.specs.Prelude.◌==◌, std.specs.Prelude.◌≡◌}

-- The status of a call that has no answer, and the two numbers that say why.

-- the status of a cause
abbrev pub status_of : Refused → ℤ
status_of (causes.Match code index) = pos 6
status_of (causes.State fault place) = pos 7
status_of (causes.Commands index) = pos 8
status_of causes.Over = pos 10
status_of causes.OutOfMemory = pos 9

-- the code of a stored state that is refused
abbrev pub state_code : StateFault → ℕ
state_code faults.NotState = 1
state_code faults.OtherMatch = 2
state_code faults.Grammar = 3
state_code faults.OutOfMemory = 0

-- what is told of a cause
abbrev pub fault_of : Refused → Fault
fault_of (causes.Match code index) = record { code = code; index = index }
fault_of (causes.State fault place) = record { code = state_code fault; index = place }
fault_of (causes.Commands index) = record { code = 0; index = index }
fault_of causes.Over = record { code = 0; index = 0 }
fault_of causes.OutOfMemory = record { code = 0; index = 0 }

-- the status of a step that came to this, where that is the status of bytes that stand for nothing
abbrev pub went_status : ℤ → Result Went OutOfMemory → ℤ
went_status refused (Ok went.Refused) = refused
went_status refused (Ok went.Idle) = pos 102
went_status refused (Ok went.Done) = pos 0
went_status refused (Err e) = pos 9

-- there is an answer of which one thing holds, or a cause of which another does, and it is put so
pub record Answers {X : Type 0} (Is : X → Type 0) (IsCause : Refused → Type 0) (Puts : Result X Refused → Type 0) : Type 0 where
  pub answer : Result X Refused
  pub is : IfOk answer Is
  pub cause : IfErr answer IsCause
  pub puts : Puts answer

-- an answer in other words
abbrev pub mapped : {X Y : Type 0} → (X → Y) → Result X Refused → Result Y Refused
mapped f (Ok x) = Ok (f x)
mapped f (Err cause) = Err cause

-- a value is written; or the cause is told
abbrev pub GivesValue : {X : Type 0} → ℤ → X → X → Fault → Fault → Result X Refused → Type 0
GivesValue status old new fault told (Ok x) = (status ≡ pos 0) × (new ≡ x) × (told ≡ fault)
GivesValue status old new fault told (Err cause) = (status ≡ status_of cause) × (new ≡ old) × (told ≡ fault_of cause)

-- a digest and a turn, as one value
abbrev pub stamp : List ℕ → ℕ → Stamp
stamp digest turn = record { digest = digest; turn = turn }

-- items stand at the front of the room, where it is large enough
abbrev pub put_in : {X : Type 0} → List X → List X → List X
put_in items room = if nat_le (length items) (length room) then items ++ drop (length items) room else room

-- the status of items that are put into a room
abbrev pub room_status : {X : Type 0} → List X → List X → ℤ
room_status items room = if nat_le (length items) (length room) then pos 0 else pos 100

-- items are put into a room, and how many they are is told in any case; or the cause is told
abbrev pub GivesItems : {X : Type 0} → ℤ → List X → List X → ℕ → ℕ → Fault → Fault → Result (List X) Refused → Type 0
GivesItems status room filled before written fault told (Ok items) =
    (status ≡ room_status items room) × (filled ≡ put_in items room) × (written ≡ length items) × (told ≡ fault)
GivesItems status room filled before written fault told (Err cause) =
    (status ≡ status_of cause) × (filled ≡ room) × (written ≡ before) × (told ≡ fault_of cause)

-- the digest that stands beside a room of a state, where the state is put into it, and else the old one
abbrev pub digest_with : List ℕ → List ℕ → List ℕ → List ℕ → List ℕ
digest_with bytes room digest old = if nat_le (length bytes) (length room) then digest else old

-- the place of a difference is written, if there is one; or the cause is told
abbrev pub GivesPlace : ℤ → ℕ → ℕ → ℕ → ℕ → Fault → Fault → Result (Option Place) Refused → Type 0
GivesPlace status entity entity' part part' fault told (Ok None) = (status ≡ pos 0) × (entity' ≡ entity) × (part' ≡ part) × (told ≡ fault)
GivesPlace status entity entity' part part' fault told (Ok (Some place)) =
    (status ≡ pos 1) × (entity' ≡ place.entity) × (part' ≡ number_of place.part) × (told ≡ fault)
GivesPlace status entity entity' part part' fault told (Err cause) =
    (status ≡ status_of cause) × (entity' ≡ entity) × (part' ≡ part) × (told ≡ fault_of cause)

-- How what a call of something held came to is put where C wants it. What is not named is as it was.

-- how many turns were played is written, if any were
abbrev pub GivesPlayed : ℤ → ℕ → ℕ → Result ℕ OutOfMemory → Type 0
GivesPlayed status played played' (Ok turns) = (status ≡ (if turns == 0 then pos 102 else pos 0)) × (played' ≡ (if turns == 0 then played else turns))
GivesPlayed status played played' (Err e) = (status ≡ pos 9) × (played' ≡ played)

-- a look in other words
abbrev pub looked : {X Y : Type 0} → (X → Y) → Result (Option X) OutOfMemory → Result (Option Y) OutOfMemory
looked f (Ok (Some x)) = Ok (Some (f x))
looked f (Ok None) = Ok None
looked f (Err e) = Err e

-- items are put into a room, and how many they are is told in any case; or there are none
abbrev pub GivesLook : {X : Type 0} → ℤ → List X → List X → ℕ → ℕ → Result (Option (List X)) OutOfMemory → Type 0
GivesLook status room filled before written (Ok (Some items)) = (status ≡ room_status items room) × (filled ≡ put_in items room) × (written ≡ length items)
GivesLook status room filled before written (Ok None) = (status ≡ pos 105) × (filled ≡ room) × (written ≡ before)
GivesLook status room filled before written (Err e) = (status ≡ pos 9) × (filled ≡ room) × (written ≡ before)

-- what a look at a state can write: its bytes, their number and their digest
pub record Sheet : Type 0 where
  pub room : List ℕ
  pub written : ℕ
  pub digest : List ℕ

abbrev pub sheet : List ℕ → ℕ → List ℕ → Sheet
sheet room written digest = record { room = room; written = written; digest = digest }

-- the bytes of a state are put into the room, and with them their digest; how many they are is told in any case; or there is no state
abbrev pub GivesSheet : ℤ → Sheet → Sheet → Result (Option Stored) OutOfMemory → Type 0
GivesSheet status old new (Ok (Some stored)) =
    let bytes = stored.bytes.items in
    (status ≡ room_status bytes old.room) × (new ≡ sheet (put_in bytes old.room) (length bytes) (digest_with bytes old.room stored.digest old.digest))
GivesSheet status old new (Ok None) = (status ≡ pos 105) × (new ≡ old)
GivesSheet status old new (Err e) = (status ≡ pos 9) × (new ≡ old)

-- a digest and a turn are written, or there is no state; no memory is wanted
abbrev pub GivesStamp : ℤ → Stamp → Stamp → Result (Option Stamp) OutOfMemory → Type 0
GivesStamp status old new (Ok (Some found)) = (status ≡ pos 0) × (new ≡ found)
GivesStamp status old new (Ok None) = (status ≡ pos 105) × (new ≡ old)
GivesStamp status old new (Err e) = ⊥

-- How a stored state is put where C wants it.

-- what a call that gives a state can write: its bytes, their number, their digest, and why there is none
pub record Outs : Type 0 where
  pub room : List ℕ
  pub written : ℕ
  pub digest : List ℕ
  pub fault : Fault

abbrev pub outs : List ℕ → ℕ → List ℕ → Fault → Outs
outs room written digest fault = record { room = room; written = written; digest = digest; fault = fault }

-- the bytes are put into the room, and with them their digest; how many they are is told in any case; or the cause is told
abbrev pub GivesStored : ℤ → Outs → Outs → Result Stored Refused → Type 0
GivesStored status old new (Ok stored) =
    let bytes = stored.bytes.items in
    (status ≡ room_status bytes old.room)
    × (new ≡ outs (put_in bytes old.room) (length bytes) (digest_with bytes old.room stored.digest old.digest) old.fault)
GivesStored status old new (Err cause) = (status ≡ status_of cause) × (new ≡ record old { fault = fault_of cause })

-- What a handle holds before and behind a call.

-- there is an answer of which one thing holds, and it is put so
pub record Comes {X : Type 0} (Is : X → Type 0) (Puts : X → Type 0) : Type 0 where
  pub answer : X
  pub is : Is answer
  pub puts : Puts answer

-- a call makes this of the client that a handle holds; a handle that holds none still holds what it did, and this is all
abbrev pub OfClient : (ClientView → ClientView → Type 0) → Type 0 → Option Held → Option Held → Type 0
OfClient Makes Bad (Some (held.Client old)) after = (new : ClientView) × (after ≡ Some (held.Client new)) × Makes old new
OfClient Makes Bad (Some (held.Server old)) after = (after ≡ Some (held.Server old)) × Bad
OfClient Makes Bad (Some (held.Match old)) after = (after ≡ Some (held.Match old)) × Bad
OfClient Makes Bad None after = (after ≡ None) × Bad

-- the same of a server
abbrev pub OfServer : (ServerView → ServerView → Type 0) → Type 0 → Option Held → Option Held → Type 0
OfServer Makes Bad (Some (held.Client old)) after = (after ≡ Some (held.Client old)) × Bad
OfServer Makes Bad (Some (held.Server old)) after = (new : ServerView) × (after ≡ Some (held.Server new)) × Makes old new
OfServer Makes Bad (Some (held.Match old)) after = (after ≡ Some (held.Match old)) × Bad
OfServer Makes Bad None after = (after ≡ None) × Bad

-- the same of a match
abbrev pub OfGame : (GameView → GameView → Type 0) → Type 0 → Option Held → Option Held → Type 0
OfGame Makes Bad (Some (held.Client old)) after = (after ≡ Some (held.Client old)) × Bad
OfGame Makes Bad (Some (held.Server old)) after = (after ≡ Some (held.Server old)) × Bad
OfGame Makes Bad (Some (held.Match old)) after = (new : GameView) × (after ≡ Some (held.Match new)) × Makes old new
OfGame Makes Bad None after = (after ≡ None) × Bad

-- what is there for sure, as a look
abbrev pub there_is : {X : Type 0} → Result X OutOfMemory → Result (Option X) OutOfMemory
there_is (Ok x) = Ok (Some x)
there_is (Err e) = Err e

-- a look at the state of a match, or of a client that is on: there is an answer of which this holds, and it is put so; else this is all
abbrev pub Looks : {X : Type 0} → (Setup → State → X → Type 0) → (Result (Option X) OutOfMemory → Type 0) → Type 0 → Option Held → Type 0
Looks Is Puts Bad (Some (held.Client c)) = Comes (LooksAtClient Is c) Puts
Looks Is Puts Bad (Some (held.Server s)) = Bad
Looks Is Puts Bad (Some (held.Match g)) = Comes (λ answer. IfOk answer (LooksAt (Some g.state) (Is g.setup))) Puts
Looks Is Puts Bad None = Bad

-- what was made is a client of which this holds, or none
abbrev pub IsClient : (Option ClientView → Type 0) → Option Held → Type 0
IsClient Is None = Is None
IsClient Is (Some (held.Client c)) = Is (Some c)
IsClient Is (Some (held.Server s)) = ⊥
IsClient Is (Some (held.Match g)) = ⊥

-- what was made is a server of which this holds, or none
abbrev pub IsServer : (Option ServerView → Type 0) → Option Held → Type 0
IsServer Is None = Is None
IsServer Is (Some (held.Client c)) = ⊥
IsServer Is (Some (held.Server s)) = Is (Some s)
IsServer Is (Some (held.Match g)) = ⊥

-- what was made is a match at this state
abbrev pub IsGame : Setup → State → Option Held → Type 0
IsGame setup state None = ⊥
IsGame setup state (Some (held.Client c)) = ⊥
IsGame setup state (Some (held.Server s)) = ⊥
IsGame setup state (Some (held.Match g)) = g ≡ record { setup = setup; state = state }

-- a closed handle holds what was made, or why there is nothing is told; one that holds something is bad
abbrev pub Opens : Option Held → Option Held → ℤ → Fault → Fault → Result (Option Held) Refused → Type 0
Opens (Some x) after status fault told made = (after ≡ Some x) × (status ≡ pos 101) × (told ≡ fault)
Opens None after status fault told (Ok (Some made)) = (after ≡ Some made) × (status ≡ pos 0) × (told ≡ fault)
Opens None after status fault told (Ok None) = (after ≡ None) × (status ≡ pos 104) × (told ≡ fault)
Opens None after status fault told (Err cause) = (after ≡ None) × (status ≡ status_of cause) × (told ≡ fault_of cause)

-- a handle holds nothing
abbrev pub is_none : Option Held → Bool
is_none None = true
is_none (Some x) = false

-- the status of a handle that is closed
abbrev pub close_status : Option Held → ℤ
close_status None = pos 101
close_status (Some x) = pos 0
