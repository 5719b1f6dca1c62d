-- Which messages ask for memory while they are read: those that name entities, and those with bytes of a state. All others are read
-- without any, and whatever else is wrong with bytes is found without any.
use Rattle.sim_plain.specs.declared.message.DownOf.TheVariants as down
use Rattle.sim_plain.specs.declared.message.UpOf.TheVariants as up
use Rattle.sim_wire.specs.Common.{AllByRecursion, Arrival, Attack, byte_at, Command, Cut, Delete, DownOf, Heard, number_at, Place, Resign, Stop, Train, UpOf}
use Rattle.sim_wire.specs.{Common.Walk, Common.w16, Common.w32, Reading.IsUpFrame, Reading.state_limit, Reading.up_at}
use Rattle.std.specs.Prelude.{Bool, false, if◌then◌else◌, length, List, nat_lt, None, Option, option_map, Some, true, ℕ, ◌*◌, ◌+◌, ◌<◌, ◌==◌, ◌↔◌, ◌≡◌}

-- The form of a frame, by lengths and codes alone. Bytes of this form are the frame of a message, so that it is known before any
-- memory is taken.

-- something was read, and this holds of it and of the bytes behind it
abbrev pub read_and : {X : Type 0} → Option (X × List ℕ) → (X → List ℕ → Bool) → Bool
read_and None holds = false
read_and (Some read) holds = holds read.0 read.1

-- a count of at most 256, so many ids, and so many bytes behind them
unfoldable pub ids_form : ℕ → List ℕ → Bool
ids_form behind bytes = read_and (number_at w16 bytes) (λ count rest. if nat_lt 256 count then false else (length rest == 4 * count + behind))

-- what a command of a kind has
unfoldable pub kind_form : ℕ → List ℕ → Bool
kind_form kind bytes =
    if kind == 1 then ids_form 8 bytes
    else if kind == 2 then ids_form 0 bytes
    else if kind == 3 then ids_form 4 bytes
    else if kind == 4 then ids_form 0 bytes
    else if kind == 5 then (length bytes == 10)
    else if kind == 6 then (length bytes == 6)
    else if kind == 7 then (length bytes == 0)
    else false

-- a kind, and a command of it
unfoldable pub command_form : List ℕ → Bool
command_form bytes = read_and (byte_at bytes) kind_form

-- so many bytes, and a state behind them
unfoldable pub state_form : ℕ → List ℕ → Bool
state_form before bytes = if nat_lt (length bytes) before then false else (if nat_lt (before + state_limit) (length bytes) then false else true)

-- a turn, and a command
unfoldable pub up_command_form : List ℕ → Bool
up_command_form bytes = read_and (number_at w32 bytes) (λ turn. command_form)

-- what a client says, by its tag
unfoldable pub up_tag_form : ℕ → List ℕ → Bool
up_tag_form tag bytes =
    if tag == 1 then (length bytes == 0)
    else if tag == 2 then up_command_form bytes
    else if tag == 3 then (length bytes == 4)
    else if tag == 4 then (length bytes == 20)
    else if tag == 5 then state_form 5 bytes
    else false

-- a turn, a player, and a command
unfoldable pub down_command_form : List ℕ → Bool
down_command_form bytes = read_and (number_at w32 bytes) (λ turn rest. read_and (byte_at rest) (λ player. command_form))

-- what the server says, by its tag
unfoldable pub down_tag_form : ℕ → List ℕ → Bool
down_tag_form tag bytes =
    if tag == 1 then (length bytes == 1)
    else if tag == 2 then state_form 4 bytes
    else if tag == 3 then down_command_form bytes
    else if tag == 4 then (length bytes == 4)
    else if tag == 5 then (length bytes == 5)
    else if tag == 6 then (length bytes == 1)
    else false

-- a number that is how many bytes follow, and a tag with what it has
abbrev pub framed_form : (ℕ → List ℕ → Bool) → List ℕ → Bool
framed_form tagged bytes = read_and (number_at w32 bytes) (λ size body. if size == length body then read_and (byte_at body) tagged else false)

-- the form of what a client says
unfoldable pub up_form : List ℕ → Bool
up_form bytes = framed_form up_tag_form bytes

-- the form of what the server says
unfoldable pub down_form : List ℕ → Bool
down_form bytes = framed_form down_tag_form bytes

-- ---- messages

-- there is something in a list
abbrev pub has_some : List ℕ → Bool
has_some list = nat_lt 0 (length list)

-- a command names entities
abbrev pub names_some : Command → Bool
names_some (Walk ids to) = has_some ids
names_some (Stop ids) = has_some ids
names_some (Attack ids target) = has_some ids
names_some (Delete ids) = has_some ids
names_some (Place template at) = false
names_some (Train building template) = false
names_some Resign = false

-- what a client says names entities, or has bytes of a state
abbrev pub up_carries : UpOf (List ℕ) → Bool
up_carries up.Join = false
up_carries (up.Command turn command) = names_some command
up_carries (up.Done turn) = false
up_carries (up.Report turn digest) = false
up_carries (up.State client turn bytes) = has_some bytes

-- the same of what the server says
abbrev pub down_carries : DownOf (List ℕ) → Bool
down_carries (down.Ask client) = false
down_carries (down.State done bytes) = has_some bytes
down_carries (down.Command turn order) = names_some order.command
down_carries (down.Release turn) = false
down_carries (down.Notice turn client) = false
down_carries (down.Refused code) = false

-- ---- bytes

-- a count that is not 0
unfoldable pub ids_take : List ℕ → Bool
ids_take bytes = read_and (number_at w16 bytes) (λ count rest. nat_lt 0 count)

-- a kind with ids, and such a count
unfoldable pub kind_takes : ℕ → List ℕ → Bool
kind_takes kind bytes =
    if kind == 1 then ids_take bytes
    else if kind == 2 then ids_take bytes
    else if kind == 3 then ids_take bytes
    else if kind == 4 then ids_take bytes
    else false

-- the same from the kind on
unfoldable pub command_takes : List ℕ → Bool
command_takes bytes = read_and (byte_at bytes) kind_takes

-- bytes of a state
unfoldable pub state_takes : List ℕ → Bool
state_takes bytes = has_some bytes

-- behind a turn, a command
unfoldable pub up_command_takes : List ℕ → Bool
up_command_takes bytes = read_and (number_at w32 bytes) (λ turn. command_takes)

-- behind a client and a turn, bytes of a state
unfoldable pub up_state_takes : List ℕ → Bool
up_state_takes bytes = read_and (byte_at bytes) (λ client rest. read_and (number_at w32 rest) (λ turn. state_takes))

-- what a client says, by its tag
unfoldable pub up_tag_takes : ℕ → List ℕ → Bool
up_tag_takes tag bytes =
    if tag == 2 then up_command_takes bytes
    else if tag == 5 then up_state_takes bytes
    else false

-- the same behind a length
unfoldable pub up_takes : List ℕ → Bool
up_takes bytes = read_and (number_at w32 bytes) (λ size body. read_and (byte_at body) up_tag_takes)

-- behind a turn, bytes of a state
unfoldable pub down_state_takes : List ℕ → Bool
down_state_takes bytes = read_and (number_at w32 bytes) (λ done. state_takes)

-- behind a turn and a player, a command
unfoldable pub down_command_takes : List ℕ → Bool
down_command_takes bytes = read_and (number_at w32 bytes) (λ turn rest. read_and (byte_at rest) (λ player. command_takes))

-- what the server says, by its tag
unfoldable pub down_tag_takes : ℕ → List ℕ → Bool
down_tag_takes tag bytes =
    if tag == 2 then down_state_takes bytes
    else if tag == 3 then down_command_takes bytes
    else false

-- the same behind a length
unfoldable pub down_takes : List ℕ → Bool
down_takes bytes = read_and (number_at w32 bytes) (λ size body. read_and (byte_at body) down_tag_takes)

-- Bytes as they came from a client: the message of which they are the frame, or the end of a connection on which no frame came.

-- what a client says of which these bytes are the frame
unfoldable pub message_in : List ℕ → Option (UpOf (List ℕ))
message_in bytes = if up_form bytes then option_map (λ read. read.0) (up_at bytes) else None

-- a message is heard, or the client is cut off
abbrev pub heard_or_cut : ℕ → Option (UpOf (List ℕ)) → Arrival (List ℕ)
heard_or_cut from None = Cut from
heard_or_cut from (Some message) = Heard from message

-- what arrives with these bytes
abbrev pub raw : ℕ → List ℕ → Arrival (List ℕ)
raw from bytes = heard_or_cut from (message_in bytes)

-- bytes are heard as a message just where they are its frame
abbrev pub AreHeardAsFramed : Type 0
AreHeardAsFramed = (bytes : List ℕ) → AllByRecursion (λ b. b < 256) bytes → (message : UpOf (List ℕ)) → (message_in bytes ≡ Some message)
    ↔ IsUpFrame bytes message
