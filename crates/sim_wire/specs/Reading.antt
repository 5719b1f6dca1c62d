-- A message as it is read from bytes. The length in front is passed over, and so is what follows a message of fixed length: whether
-- the bytes are just the frame of what was read is seen when it is framed again.
use Rattle.sim_plain.specs.declared.message.DownOf.TheVariants as down
use Rattle.sim_plain.specs.declared.message.UpOf.TheVariants as up
use Rattle.sim_wire.specs.declared.fault.WireFault.TheVariants as faults
use Rattle.sim_wire.specs.Common.{AllByRecursion, Attack, byte_at, Command, Delete, DownOf, HasFewIds, IsPoint, number_at, Place, point_at, point_bytes, Reader}
use Rattle.sim_wire.specs.Common.{Reads, Resign, Stop, Train, u16_bytes, u32_bytes, UpOf, w16, w32, Walk}
use Rattle.std.specs.Prelude.{[], Bool, drop, Err, IfOk, if◌then◌else◌, length, List, nat_lt, None, Ok, Option, Result, Some, suc, take, true, zero, ℕ, ◌++◌}
use Rattle.std.specs.{Coded.Unit-prop, Coded.le_prop, List.flat_map, Prelude.◌<◌, Prelude.◌==◌, Prelude.◌^◌, Prelude.◌∷◌, Prelude.◌≡◌, Prelude.◌≤◌}
use Rattle.{sim_bytes.specs.Reading.◌>>=◌, sim_bytes.specs.declared.take.Short.Short, sim_wire.specs.declared.fault.WireFault.WireFault}

-- The bytes of a message: the length of its body, and the body, which begins with a tag.

-- how many there are, and each of them
unfoldable pub ids_bytes : List ℕ → List ℕ
ids_bytes ids = u16_bytes (length ids) ++ flat_map u32_bytes ids

-- the kind of a command, and what it has
abbrev pub command_bytes : Command → List ℕ
command_bytes (Walk ids to) = 1 ∷ (ids_bytes ids ++ point_bytes to)
command_bytes (Stop ids) = 2 ∷ ids_bytes ids
command_bytes (Attack ids target) = 3 ∷ (ids_bytes ids ++ u32_bytes target)
command_bytes (Delete ids) = 4 ∷ ids_bytes ids
command_bytes (Place template at) = 5 ∷ (u16_bytes template ++ point_bytes at)
command_bytes (Train building template) = 6 ∷ (u32_bytes building ++ u16_bytes template)
command_bytes Resign = 7 ∷ []

-- the tag of what a client says, and what it has; the bytes of a state come last
abbrev pub up_body : UpOf (List ℕ) → List ℕ
up_body up.Join = 1 ∷ []
up_body (up.Command turn command) = 2 ∷ (u32_bytes turn ++ command_bytes command)
up_body (up.Done turn) = 3 ∷ u32_bytes turn
up_body (up.Report turn digest) = 4 ∷ (u32_bytes turn ++ digest)
up_body (up.State client turn bytes) = 5 ∷ client ∷ (u32_bytes turn ++ bytes)

-- the same of what the server says
abbrev pub down_body : DownOf (List ℕ) → List ℕ
down_body (down.Ask client) = 1 ∷ client ∷ []
down_body (down.State done bytes) = 2 ∷ (u32_bytes done ++ bytes)
down_body (down.Command turn order) = 3 ∷ (u32_bytes turn ++ order.player ∷ command_bytes order.command)
down_body (down.Release turn) = 4 ∷ u32_bytes turn
down_body (down.Notice turn client) = 5 ∷ (u32_bytes turn ++ client ∷ [])
down_body (down.Refused code) = 6 ∷ code ∷ []

-- a body behind its length
abbrev pub framed : List ℕ → List ℕ
framed body = u32_bytes (length body) ++ body

-- the frame of what a client says
abbrev pub up_frame : UpOf (List ℕ) → List ℕ
up_frame message = framed (up_body message)

-- the frame of what the server says
abbrev pub down_frame : DownOf (List ℕ) → List ℕ
down_frame message = framed (down_body message)

-- Which messages have a frame: those with few ids and a short state, whose numbers fit their bytes. The numbers of a message in
-- memory always do.

-- how many bytes a state has at most: 75, and 573 for each of 4,096 rows
abbrev pub state_limit : ℕ
state_limit = 2347083

-- the bytes of a state are not more than any state has
abbrev pub IsShortState : List ℕ → Type 0
IsShortState bytes = length bytes ≤ state_limit

-- what a client says has at most 256 ids, and a short state
abbrev pub IsSmallUp : UpOf (List ℕ) → Type 0
IsSmallUp up.Join = Unit {0}
IsSmallUp (up.Command turn command) = HasFewIds command
IsSmallUp (up.Done turn) = Unit {0}
IsSmallUp (up.Report turn digest) = Unit {0}
IsSmallUp (up.State client turn bytes) = IsShortState bytes

-- and so has what the server says
abbrev pub IsSmallDown : DownOf (List ℕ) → Type 0
IsSmallDown (down.Ask client) = Unit {0}
IsSmallDown (down.State done bytes) = IsShortState bytes
IsSmallDown (down.Command turn order) = HasFewIds order.command
IsSmallDown (down.Release turn) = Unit {0}
IsSmallDown (down.Notice turn client) = Unit {0}
IsSmallDown (down.Refused code) = Unit {0}

-- that a message is small is shown in one way, so that a value can carry it
HasFewIds-prop : (command : Command) → IsProp (HasFewIds command)
HasFewIds-prop (Walk ids to) = le_prop
HasFewIds-prop (Stop ids) = le_prop
HasFewIds-prop (Attack ids target) = le_prop
HasFewIds-prop (Delete ids) = le_prop
HasFewIds-prop (Place template at) = Unit-prop
HasFewIds-prop (Train building template) = Unit-prop
HasFewIds-prop Resign = Unit-prop

pub IsSmallUp-prop : (message : UpOf (List ℕ)) → IsProp (IsSmallUp message)
IsSmallUp-prop up.Join = Unit-prop
IsSmallUp-prop (up.Command turn command) = HasFewIds-prop command
IsSmallUp-prop (up.Done turn) = Unit-prop
IsSmallUp-prop (up.Report turn digest) = Unit-prop
IsSmallUp-prop (up.State client turn bytes) = le_prop

pub IsSmallDown-prop : (message : DownOf (List ℕ)) → IsProp (IsSmallDown message)
IsSmallDown-prop (down.Ask client) = Unit-prop
IsSmallDown-prop (down.State done bytes) = le_prop
IsSmallDown-prop (down.Command turn order) = HasFewIds-prop order.command
IsSmallDown-prop (down.Release turn) = Unit-prop
IsSmallDown-prop (down.Notice turn client) = Unit-prop
IsSmallDown-prop (down.Refused code) = Unit-prop

-- few ids, of which each fits
pub record IdsFit (ids : List ℕ) : Type 0 where
  pub few : length ids ≤ 256
  pub each : AllByRecursion (λ id. id < 2 ^ 32) ids

-- a command has few ids, and its numbers fit
abbrev pub CommandFits : Command → Type 0
CommandFits (Walk ids to) = IdsFit ids × IsPoint to
CommandFits (Stop ids) = IdsFit ids
CommandFits (Attack ids target) = IdsFit ids × (target < 2 ^ 32)
CommandFits (Delete ids) = IdsFit ids
CommandFits (Place template at) = (template < 2 ^ 16) × IsPoint at
CommandFits (Train building template) = (building < 2 ^ 32) × (template < 2 ^ 16)
CommandFits Resign = Unit {0}

-- what a client says is small, and its numbers fit
abbrev pub UpFits : UpOf (List ℕ) → Type 0
UpFits up.Join = Unit {0}
UpFits (up.Command turn command) = (turn < 2 ^ 32) × CommandFits command
UpFits (up.Done turn) = turn < 2 ^ 32
UpFits (up.Report turn digest) = (turn < 2 ^ 32) × (length digest ≡ 16)
UpFits (up.State client turn bytes) = (turn < 2 ^ 32) × IsShortState bytes

-- the same of what the server says
abbrev pub DownFits : DownOf (List ℕ) → Type 0
DownFits (down.Ask client) = Unit {0}
DownFits (down.State done bytes) = (done < 2 ^ 32) × IsShortState bytes
DownFits (down.Command turn order) = (turn < 2 ^ 32) × CommandFits order.command
DownFits (down.Release turn) = turn < 2 ^ 32
DownFits (down.Notice turn client) = turn < 2 ^ 32
DownFits (down.Refused code) = Unit {0}

-- bytes are the frame of what a client says
pub record IsUpFrame (bytes : List ℕ) (message : UpOf (List ℕ)) : Type 0 where
  pub fits : UpFits message
  pub framed : bytes ≡ up_frame message

-- bytes are the frame of what the server says
pub record IsDownFrame (bytes : List ℕ) (message : DownOf (List ℕ)) : Type 0 where
  pub fits : DownFits message
  pub framed : bytes ≡ down_frame message

-- so many ids
unfoldable pub numbers_at : ℕ → Reader (List ℕ)
numbers_at zero bytes = Some ([], bytes)
numbers_at (suc n) bytes = number_at w32 bytes >>= λ first. numbers_at n first.1 >>= λ others. Some (first.0 ∷ others.0, others.1)

-- a count of at most 256, and so many ids
unfoldable pub ids_at : Reader (List ℕ)
ids_at bytes = number_at w16 bytes >>= λ count. if nat_lt 256 count.0 then None else numbers_at count.0 count.1

-- ids, and a point
unfoldable pub walk_at : Reader Command
walk_at bytes = ids_at bytes >>= λ ids. point_at ids.1 >>= λ to. Some (Walk ids.0 to.0, to.1)

-- ids alone, which stop
unfoldable pub stop_at : Reader Command
stop_at bytes = ids_at bytes >>= λ ids. Some (Stop ids.0, ids.1)

-- ids, and a target
unfoldable pub attack_at : Reader Command
attack_at bytes = ids_at bytes >>= λ ids. number_at w32 ids.1 >>= λ target. Some (Attack ids.0 target.0, target.1)

-- ids alone, which are deleted
unfoldable pub delete_at : Reader Command
delete_at bytes = ids_at bytes >>= λ ids. Some (Delete ids.0, ids.1)

-- a template, and a point
unfoldable pub place_at : Reader Command
place_at bytes = number_at w16 bytes >>= λ template. point_at template.1 >>= λ at. Some (Place template.0 at.0, at.1)

-- a building, and a template
unfoldable pub train_at : Reader Command
train_at bytes = number_at w32 bytes >>= λ building. number_at w16 building.1 >>= λ template. Some (Train building.0 template.0, template.1)

-- a command of a kind
unfoldable pub kind_at : ℕ → Reader Command
kind_at kind bytes =
    if kind == 1 then walk_at bytes
    else if kind == 2 then stop_at bytes
    else if kind == 3 then attack_at bytes
    else if kind == 4 then delete_at bytes
    else if kind == 5 then place_at bytes
    else if kind == 6 then train_at bytes
    else if kind == 7 then Some (Resign, bytes)
    else None

-- a kind, and a command of it
unfoldable pub command_at : Reader Command
command_at bytes = byte_at bytes >>= λ kind. kind_at kind.0 kind.1

-- 16 bytes
unfoldable pub digest_at : Reader (List ℕ)
digest_at bytes = if nat_lt (length bytes) 16 then None else Some (take 16 bytes, drop 16 bytes)

-- all that is left, if it is no longer than a state
unfoldable pub state_at : Reader (List ℕ)
state_at bytes = if nat_lt state_limit (length bytes) then None else Some (bytes, bytes)

-- ---- what a client says

-- a turn, and a command
unfoldable pub up_command_at : Reader (UpOf (List ℕ))
up_command_at bytes = number_at w32 bytes >>= λ turn. command_at turn.1 >>= λ command. Some (up.Command turn.0 command.0, command.1)

-- a turn that a client is done with
unfoldable pub up_done_at : Reader (UpOf (List ℕ))
up_done_at bytes = number_at w32 bytes >>= λ turn. Some (up.Done turn.0, turn.1)

-- a turn, and a digest
unfoldable pub up_report_at : Reader (UpOf (List ℕ))
up_report_at bytes = number_at w32 bytes >>= λ turn. digest_at turn.1 >>= λ digest. Some (up.Report turn.0 digest.0, digest.1)

-- the client for whom a state is, its turn, and its bytes
unfoldable pub up_state_at : Reader (UpOf (List ℕ))
up_state_at bytes = byte_at bytes >>= λ client. number_at w32 client.1 >>= λ turn. state_at turn.1 >>= λ state. Some (up.State client.0 turn.0 state.0, state.1)

-- what a client says, by its tag
unfoldable pub up_tagged_at : ℕ → Reader (UpOf (List ℕ))
up_tagged_at tag bytes =
    if tag == 1 then Some (up.Join, bytes)
    else if tag == 2 then up_command_at bytes
    else if tag == 3 then up_done_at bytes
    else if tag == 4 then up_report_at bytes
    else if tag == 5 then up_state_at bytes
    else None

-- a length, a tag, and what a client says with this tag
unfoldable pub up_at : Reader (UpOf (List ℕ))
up_at bytes = number_at w32 bytes >>= λ size. byte_at size.1 >>= λ tag. up_tagged_at tag.0 tag.1

-- ---- what the server says

-- the client for whom a state is asked
unfoldable pub down_ask_at : Reader (DownOf (List ℕ))
down_ask_at bytes = byte_at bytes >>= λ client. Some (down.Ask client.0, client.1)

-- a turn that counts as done, and the bytes of a state
unfoldable pub down_state_at : Reader (DownOf (List ℕ))
down_state_at bytes = number_at w32 bytes >>= λ done. state_at done.1 >>= λ state. Some (down.State done.0 state.0, state.1)

-- a turn, a player, and a command
unfoldable pub down_command_at : Reader (DownOf (List ℕ))
down_command_at bytes =
    number_at w32 bytes >>= λ turn. byte_at turn.1 >>= λ player. command_at player.1 >>= λ command.
    Some (down.Command turn.0 (record { player = player.0; command = command.0 }), command.1)

-- a turn that is released
unfoldable pub down_release_at : Reader (DownOf (List ℕ))
down_release_at bytes = number_at w32 bytes >>= λ turn. Some (down.Release turn.0, turn.1)

-- a turn, and the client whose report differs
unfoldable pub down_notice_at : Reader (DownOf (List ℕ))
down_notice_at bytes = number_at w32 bytes >>= λ turn. byte_at turn.1 >>= λ client. Some (down.Notice turn.0 client.0, client.1)

-- why something is refused
unfoldable pub down_refused_at : Reader (DownOf (List ℕ))
down_refused_at bytes = byte_at bytes >>= λ code. Some (down.Refused code.0, code.1)

-- what the server says, by its tag
unfoldable pub down_tagged_at : ℕ → Reader (DownOf (List ℕ))
down_tagged_at tag bytes =
    if tag == 1 then down_ask_at bytes
    else if tag == 2 then down_state_at bytes
    else if tag == 3 then down_command_at bytes
    else if tag == 4 then down_release_at bytes
    else if tag == 5 then down_notice_at bytes
    else if tag == 6 then down_refused_at bytes
    else None

-- a length, a tag, and what the server says with this tag
unfoldable pub down_at : Reader (DownOf (List ℕ))
down_at bytes = number_at w32 bytes >>= λ size. byte_at size.1 >>= λ tag. down_tagged_at tag.0 tag.1

-- ---- calls that read

-- a call fails for want of memory, or because there is nothing to be read
abbrev pub Fails : {X : Type 0} → Option X → WireFault → Type 0
Fails read faults.TooLong = ⊥
Fails read faults.NotFrame = read ≡ None
Fails read faults.OutOfMemory = Unit {0}

-- a call gave what `read` says
abbrev pub Gives : {X : Type 0} → Reader X → List ℕ → Result X WireFault → List ℕ → Type 0
Gives read old (Ok x) new = read old ≡ Some (x, new)
Gives read old (Err e) new = Fails (read old) e

-- A call gave what `read` says, which is small enough to be framed, and wants memory only where the bytes ask for some.
pub record Takes {X : Type 0} (read : Reader X) (IsSmall : X → Type 0) (asks : List ℕ → Bool) (old : List ℕ) (result : Result X WireFault)
    (new : List ℕ) : Type 0 where
  pub gives : Gives read old result new
  pub small : IfOk result IsSmall
  pub memory : result ≡ Err faults.OutOfMemory → asks old ≡ true

-- the same of what never takes memory, and is not read only where bytes are wanting
pub record TakesLight {X : Type 0} (read : Reader X) (IsSmall : X → Type 0) (old : List ℕ) (result : Result X Short) (new : List ℕ) : Type 0 where
  pub reads : Reads read old result new
  pub small : IfOk result IsSmall
