-- Arrivals as a schedule spells them: a client, a word, and what follows it.
use Rattle.sim_lists.specs.declared.schedule.Said.TheVariants as said
use Rattle.sim_plain.specs.Messages as plain
use Rattle.{hex.specs.Hex.decode_of, serde_json.specs.{Data.Data, Find.as_str}, sim_bytes.specs.Hex.is_digit}
use Rattle.sim_json.specs.{Commands.{command_of, command_takes, next_or, three}, Values.{front_two, list_of, natural_in, two}}
use Rattle.sim_lists.specs.declared.schedule.{Arrival.Arrival, Said.Said}
use Rattle.{sim_plain.specs.declared.message.UpOf.{TheVariants.{Command, Done, Join, Report, State}, UpOf}, sim_wire.specs.{Memory.raw, Reading.state_limit}}
use Rattle.std.specs.{List.list_all, Prelude.{Bool, codes, false, if◌then◌else◌, length, List, nat_le, nat_lt, None, Option, option_and_then, option_map, Some}}
use Rattle.std.specs.{Prelude.{ℕ, [], ◌%◌, ◌&&◌, ◌*◌, ◌-◌, ◌==◌, ◌^◌, ◌∷◌}, Result.result_ok, Str.bytes_eq}

-- Texts of hexadecimal digits as bytes.

-- pairs of lower-case digits
abbrev pub is_hex : List ℕ → Bool
is_hex text = (length text % 2 == 0) && list_all is_digit text

-- the bytes of a text of such pairs
abbrev pub hex_of : List ℕ → Option (List ℕ)
hex_of text = if is_hex text then result_ok (decode_of text) else None

-- the 16 bytes of a digest, from a text of 32 digits
abbrev pub digest_of : List ℕ → Option (List ℕ)
digest_of text = if length text == 32 then hex_of text else None

-- how many digits the bytes of a state have at most
abbrev pub state_digits : ℕ
state_digits = 2 * state_limit

-- the bytes of a state
abbrev pub state_of : List ℕ → Option (List ℕ)
state_of text = if nat_le (length text) state_digits then hex_of text else None

-- bytes as they came, of which there are at most 2,400,000
abbrev pub raw_of : List ℕ → Option (List ℕ)
raw_of text = if nat_le (length text) 4800000 then hex_of text else None

-- a turn, be it one of the match or not
abbrev pub turn_in : Data → Option ℕ
turn_in d = natural_in 0 (2 ^ 32 - 1) d

-- to join, what follows the word is nothing
abbrev pub join_from : List Data → Option (UpOf (List ℕ))
join_from [] = Some Join
join_from other = None

-- to give a command, its turn, its kind and what follows that
abbrev pub command_from : List Data → Option (UpOf (List ℕ))
command_from [] = None
command_from (turn ∷ rest) = next_or (turn_in turn) None (λ turn. option_map (Command turn) (command_of rest))

-- to be done with a turn, the turn
abbrev pub done_from : List Data → Option (UpOf (List ℕ))
done_from (turn ∷ []) = option_map Done (turn_in turn)
done_from other = None

-- to report, the turn and a digest
abbrev pub report_from : List Data → Option (UpOf (List ℕ))
report_from rest = next_or (two rest) None
    (λ p. next_or (turn_in p.0) None (λ turn. next_or (option_and_then digest_of (as_str p.1)) None (λ digest. Some (Report turn digest))))

-- to hand a state on, the client who waits for it, its turn and its bytes
abbrev pub state_from : List Data → Option (UpOf (List ℕ))
state_from rest =
    next_or (three rest) None
    (λ p. next_or (natural_in 0 255 p.0) None (λ client. next_or (turn_in p.1) None (λ turn. next_or (option_and_then state_of (as_str p.2)) None (λ bytes.
    Some (State client turn bytes)))))

-- what a client says, by its word
abbrev pub up_by : List ℕ → List Data → Option (UpOf (List ℕ))
up_by word rest =
    if bytes_eq word (codes "join") then join_from rest
    else if bytes_eq word (codes "command") then command_from rest
    else if bytes_eq word (codes "done") then done_from rest
    else if bytes_eq word (codes "report") then report_from rest
    else if bytes_eq word (codes "state") then state_from rest
    else None

-- the end of a client's connection, where nothing follows the word
abbrev pub cut_from : ℕ → List Data → Option Arrival
cut_from from [] = Some (record { from = from; said = said.Cut })
cut_from from other = None

-- raw bytes, their text
abbrev pub bytes_from : ℕ → List Data → Option Arrival
bytes_from from (text ∷ []) = option_map (λ bytes. record { from = from; said = said.Raw bytes }) (option_and_then raw_of (as_str text))
bytes_from from other = None

-- what arrives from a client, by its word
abbrev pub arrival_by : ℕ → List ℕ → List Data → Option Arrival
arrival_by from word rest =
    if bytes_eq word (codes "cut") then cut_from from rest
    else if bytes_eq word (codes "bytes") then bytes_from from rest
    else option_map (λ up. record { from = from; said = said.Heard up }) (up_by word rest)

-- an arrival from one of so many clients
abbrev pub arrival_from : ℕ → Data × Data × List Data → Option Arrival
arrival_from clients p = next_or (natural_in 1 clients p.0) None (λ from. next_or (as_str p.1) None (λ word. arrival_by from word p.2))

-- an arrival from its list
unfoldable pub arrival_of : ℕ → Data → Option Arrival
arrival_of clients d = option_and_then (arrival_from clients) (option_and_then front_two (list_of d))

-- the arrival of the definition of a server for which it stands
abbrev pub plain_arrival : Arrival → plain.Arrival (List ℕ)
plain_arrival arrival = plain_of arrival.from arrival.said
  where
    plain_of : ℕ → Said → plain.Arrival (List ℕ)
    plain_of from (said.Heard up) = plain.Heard from up
    plain_of from said.Cut = plain.Cut from
    plain_of from (said.Raw bytes) = raw from bytes

-- Which items ask for memory while they are read: a digest, a state or raw bytes where their text is one of digits, and a command
-- that names entities. Whatever else is wrong with an item is found without memory.

-- a text of pairs of digits that is not empty
abbrev pub hex_takes : List ℕ → Bool
hex_takes text = if is_hex text then nat_lt 0 (length text) else false

-- a text of 32 digits
abbrev pub digest_takes : List ℕ → Bool
digest_takes text = if length text == 32 then is_hex text else false

-- such a text, no longer than any state's
abbrev pub state_takes : List ℕ → Bool
state_takes text = if nat_le (length text) state_digits then hex_takes text else false

-- behind a turn stands a command that asks for memory
abbrev pub ordered_takes : List Data → Bool
ordered_takes [] = false
ordered_takes (turn ∷ rest) = next_or (turn_in turn) false (λ turn. command_takes rest)

-- such a text, no longer than any frame's
abbrev pub raw_takes : List ℕ → Bool
raw_takes text = if nat_le (length text) 4800000 then hex_takes text else false

-- raw bytes, their text
abbrev pub bytes_take : List Data → Bool
bytes_take (text ∷ []) = next_or (as_str text) false raw_takes
bytes_take other = false

-- behind a turn stands such a digest
abbrev pub report_takes : List Data → Bool
report_takes rest = next_or (two rest) false (λ p. next_or (turn_in p.0) false (λ turn. next_or (as_str p.1) false digest_takes))

-- behind a client and a turn stands such a state
abbrev pub handed_takes : List Data → Bool
handed_takes rest = next_or (three rest) false
    (λ p. next_or (natural_in 0 255 p.0) false (λ client. next_or (turn_in p.1) false (λ turn. next_or (as_str p.2) false state_takes)))

-- what a client says, by its word
abbrev pub up_takes : List ℕ → List Data → Bool
up_takes word rest =
    if bytes_eq word (codes "join") then false
    else if bytes_eq word (codes "command") then ordered_takes rest
    else if bytes_eq word (codes "done") then false
    else if bytes_eq word (codes "report") then report_takes rest
    else if bytes_eq word (codes "state") then handed_takes rest
    else false

-- what arrives, by its word
abbrev pub word_takes : List ℕ → List Data → Bool
word_takes word rest = if bytes_eq word (codes "cut") then false else if bytes_eq word (codes "bytes") then bytes_take rest else up_takes word rest

-- an arrival of one of so many clients
unfoldable pub arrival_takes : ℕ → Data → Bool
arrival_takes clients d = next_or (option_and_then front_two (list_of d)) false
    (λ p. next_or (natural_in 1 clients p.0) false (λ from. next_or (as_str p.1) false (λ word. word_takes word p.2)))

-- behind an order stands a command that asks for memory
abbrev pub order_takes : List ℕ → List Data → Bool
order_takes word rest = if bytes_eq word (codes "order") then command_takes rest else false

-- a step of one of so many players
unfoldable pub step_takes : ℕ → Data → Bool
step_takes players d = next_or (option_and_then front_two (list_of d)) false
    (λ p. next_or (as_str p.0) false (λ word. next_or (natural_in 1 players p.1) false (λ client. order_takes word p.2)))
