-- Logs of a match: which logs it has, their lines and their text, and at which line bytes that are none are refused.
use Rattle.hex.specs.Hex.{decode_sized, encode_lower, IsBytes}
use Rattle.sim_base.specs.declared.command.{Command.{Command, TheVariants.{Attack, Delete, Place, Resign, Stop, Train, Walk}}, PlayerCommand.PlayerCommand}
use Rattle.sim_base.specs.{declared.{place.Point.Point, setup.Setup.Setup}, Limits.IsFrom, NumberText.{is_digit, number_of}}
use Rattle.sim_bytes.specs.Reading.{◌>>=◌}
use Rattle.{sim_replay.specs.declared.{log.Log.Log, reading.Reading.Reading}, sim_report.specs.Downs.turn_order_text, sim_wire.specs.Reading.CommandFits}
use Rattle.std.specs.{Borrow.Bor, List.{after_first, before_first, list_all, slice_split}, Prelude.{All, Bool, codes, count_by, decimal, drop, Err, flat_map}}
use Rattle.std.specs.Prelude.{if◌then◌else◌, length, List, map, nat_le, nat_lt, None, Ok, Option, option_map, Result, Some, take, ℕ, [], ◌&&◌, ◌++◌, ◌+◌, ◌-◌}
use Rattle.std.specs.{Prelude.{◌<◌, ◌==◌, ◌^◌, ◌∷◌, ◌≡◌, ◌≢◌, ◌≤◌}, Result.result_ok, Str.{bytes_eq, is_utf8, Parse.digits_value}}

-- The lines of a log, each without the line feed at its end.

-- the match that a log is of, by its id
abbrev pub header_line : Setup → List ℕ
header_line setup = codes "simlog 1 " ++ encode_lower setup.id

-- what every command's line of a turn begins with
abbrev pub order_front : ℕ → List ℕ
order_front turn = codes "command turn " ++ (decimal turn ++ codes " player ")

-- a command of a turn, as the message of it is told
abbrev pub order_line : ℕ → PlayerCommand → List ℕ
order_line turn order = turn_order_text turn order

-- what the line of a turn's end begins with
abbrev pub digest_front : ℕ → List ℕ
digest_front turn = codes "turn " ++ (decimal turn ++ codes " ")

-- the end of a turn, with the digest after it
abbrev pub digest_line : ℕ → List ℕ → List ℕ
digest_line turn digest = digest_front turn ++ encode_lower digest

-- a command is this player's
abbrev pub is_by : ℕ → PlayerCommand → Bool
is_by player order = order.player == player

-- a command is of a player of the match, has at most 256 ids, and its numbers fit
pub record IsOrder (setup : Setup) (order : PlayerCommand) : Type 0 where
  pub player : IsFrom 1 setup.players order.player
  pub fits : CommandFits order.command

-- the commands of a turn are at most 64 of each player
pub record AreOrders (setup : Setup) (orders : List PlayerCommand) : Type 0 where
  pub each : All (IsOrder setup) orders
  pub few : (player : ℕ) → count_by (is_by player) orders ≤ 64

-- a digest is 16 bytes
pub record IsDigest (digest : List ℕ) : Type 0 where
  pub long : length digest ≡ 16
  pub bytes : IsBytes digest

-- a log of the match has at most the match's turns, and a digest more than turns
pub record IsLog (setup : Setup) (log : Log) : Type 0 where
  pub few : length log.turns ≤ setup.turns
  pub one_more : length log.digests ≡ length log.turns + 1
  pub turns : All (AreOrders setup) log.turns
  pub digests : All IsDigest log.digests

-- a log has at most the match's turns, and a digest more than turns
pub record IsOfTurns (setup : Setup) (log : Log) : Type 0 where
  pub few : length log.turns ≤ setup.turns
  pub one_more : length log.digests ≡ length log.turns + 1

-- the lines of a turn: its commands, and its end
abbrev pub turn_lines : ℕ → List PlayerCommand → List ℕ → List (List ℕ)
turn_lines turn orders digest = map (order_line turn) orders ++ digest_line turn digest ∷ []

-- the lines of the turns from this one on
abbrev pub lines_from : ℕ → List (List PlayerCommand) → List (List ℕ) → List (List ℕ)
lines_from turn [] digests = []
lines_from turn (orders ∷ turns) [] = []
lines_from turn (orders ∷ turns) (digest ∷ digests) = turn_lines turn orders digest ++ lines_from (turn + 1) turns digests

-- the lines of a log; turn 0 has no commands
abbrev pub log_lines : Setup → Log → List (List ℕ)
log_lines setup log = header_line setup ∷ lines_from 0 ([] ∷ log.turns) log.digests

-- a line, ended by a line feed
abbrev pub ended : List ℕ → List ℕ
ended line = line ++ 10 ∷ []

-- the text of a log
abbrev pub text_of_log : Setup → Log → List ℕ
text_of_log setup log = flat_map ended (log_lines setup log)

-- what stands before, between and behind the line feeds of bytes
abbrev pub parts_of : List ℕ → List (List ℕ)
parts_of bytes = slice_split (λ b. b == 10) bytes

-- the whole lines of bytes: what stands before each of their line feeds
abbrev pub whole_lines : List ℕ → List (List ℕ)
whole_lines bytes = take (length (parts_of bytes) - 1) (parts_of bytes)

-- some log of the match begins with these lines
pub record BeginsLog (setup : Setup) (lines : List (List ℕ)) : Type 0 where
  pub log : Log
  pub is_log : IsLog setup log
  pub others : List (List ℕ)
  pub begins : log_lines setup log ≡ lines ++ others

-- bytes are the text of no log of the match, and this line, counted from 1, stands behind the most of their whole lines with which one begins
pub record IsRefusedAt (setup : Setup) (bytes : List ℕ) (line : ℕ) : Type 0 where
  pub no_log : (log : Log) → IsLog setup log → bytes ≢ text_of_log setup log
  pub counted : (1 ≤ line) × (line ≤ length (whole_lines bytes) + 1)
  pub begins : BeginsLog setup (take (line - 1) (whole_lines bytes))
  pub most : (count : ℕ) → count ≤ length (whole_lines bytes) → BeginsLog setup (take count (whole_lines bytes)) → count < line

-- Texts cut into words, and the numbers that words spell. A number may be spelled in more than one way here.

-- what a line has behind this front, if it begins with it
abbrev pub behind : List ℕ → List ℕ → Option (List ℕ)
behind front line = if bytes_eq (take (length front) line) front then Some (drop (length front) line) else None

-- what stands before the first space
abbrev pub first_word : List ℕ → List ℕ
first_word text = before_first (λ b. b == 32) text

-- what stands behind the first space
abbrev pub other_words : List ℕ → List ℕ
other_words text = after_first (λ b. b == 32) text

-- a number, where it is below this limit
abbrev pub below : ℕ → ℕ → Option ℕ
below limit n = if nat_lt n limit then Some n else None

-- the number of 32 bits that decimal digits spell
unfoldable pub natural_of : List ℕ → Option ℕ
natural_of text = if list_all is_digit text && nat_lt 0 (length text) then below (2 ^ 32) (digits_value 10 text) else None

-- the same, where it is below this limit
abbrev pub natural_below : ℕ → List ℕ → Option ℕ
natural_below limit text = natural_of text >>= below limit

-- the text of a word
abbrev pub word_text : Bor (List ℕ) → List ℕ
word_text word = word.now

-- the numbers that words spell, where each of them spells one
abbrev pub naturals_of : List (List ℕ) → Option (List ℕ)
naturals_of [] = Some []
naturals_of (word ∷ words) = natural_of word >>= λ n. option_map (λ ns. n ∷ ns) (naturals_of words)

-- the ids of a text, which a comma separates; a dash is none
unfoldable pub ids_of : List ℕ → Option (List ℕ)
ids_of text = if bytes_eq text (codes "-") then Some [] else naturals_of (slice_split (λ b. b == 44) text)

-- Commands as texts, read in any spelling: the words that every command of a kind has are passed over.

-- a point from both coordinates
unfoldable pub point_of : List ℕ → Option Point
point_of text = number_of (first_word text) >>= λ x. number_of (other_words text) >>= λ z. Some (record { x = x; z = z })

-- what stands behind the second word
abbrev pub behind_two : List ℕ → List ℕ
behind_two text = other_words (other_words text)

-- to walk: ids, a word, and the point
unfoldable pub walk_of : List ℕ → Option Command
walk_of text = ids_of (first_word text) >>= λ ids. point_of (behind_two text) >>= λ to. Some (Walk ids to)

-- to attack: ids, a word, and the target
unfoldable pub attack_of : List ℕ → Option Command
attack_of text = ids_of (first_word text) >>= λ ids. natural_of (behind_two text) >>= λ target. Some (Attack ids target)

-- to place: a template, a word, and the point
unfoldable pub place_of : List ℕ → Option Command
place_of text = natural_below (2 ^ 16) (first_word text) >>= λ template. point_of (behind_two text) >>= λ at. Some (Place template at)

-- to train: the building, and a template
unfoldable pub train_of : List ℕ → Option Command
train_of text = natural_of (first_word text) >>= λ building. natural_below (2 ^ 16) (other_words text) >>= λ template. Some (Train building template)

-- a command by its kind and what follows it
unfoldable pub command_by : List ℕ → List ℕ → Option Command
command_by kind text =
    if bytes_eq kind (codes "walk") then walk_of text
    else if bytes_eq kind (codes "stop") then option_map Stop (ids_of text)
    else if bytes_eq kind (codes "attack") then attack_of text
    else if bytes_eq kind (codes "delete") then option_map Delete (ids_of text)
    else if bytes_eq kind (codes "place") then place_of text
    else if bytes_eq kind (codes "train") then train_of text
    else if bytes_eq kind (codes "resign") then Some Resign
    else None

-- a command from its kind on
abbrev pub command_of : List ℕ → Option Command
command_of text = command_by (first_word text) (other_words text)

-- a player, and what it commands
unfoldable pub order_of : List ℕ → Option PlayerCommand
order_of text =
    natural_below (2 ^ 8) (first_word text) >>= λ player. command_of (other_words text) >>= λ command.
    Some (record { player = player; command = command })

-- How a log is read, line by line: a line is read in any spelling, and taken only where it is printed so.

-- the digest that hexadecimal digits of either case spell
abbrev pub digest_of : List ℕ → Option (List ℕ)
digest_of text = result_ok (decode_sized text 16)

-- the value, where its line is this one
abbrev pub spelled : {X : Type 0} → (X → List ℕ) → List ℕ → X → Option X
spelled line_of line x = if bytes_eq (line_of x) line then Some x else None

-- the digest of the line that ends a turn
unfoldable pub digest_in : ℕ → List ℕ → Option (List ℕ)
digest_in turn line = behind (digest_front turn) line >>= λ text. digest_of text >>= λ digest. spelled (digest_line turn) line digest

-- a text, where bytes are one
abbrev pub text_in : List ℕ → Option (List ℕ)
text_in bytes = if is_utf8 bytes then Some bytes else None

-- the command of a turn's line
unfoldable pub order_in : ℕ → List ℕ → Option PlayerCommand
order_in turn line =
    behind (order_front turn) line >>= λ bytes. text_in bytes >>= λ text. order_of text >>= λ order. spelled (order_line turn) line order

-- how many ids a command has
abbrev pub ids_in : Command → ℕ
ids_in (Walk ids to) = length ids
ids_in (Stop ids) = length ids
ids_in (Attack ids target) = length ids
ids_in (Delete ids) = length ids
ids_in (Place template at) = 0
ids_in (Train building template) = 0
ids_in Resign = 0

-- a turn that has these commands may have this one too
unfoldable pub may_have : Setup → List PlayerCommand → PlayerCommand → Bool
may_have setup orders order =
    nat_le 1 order.player && nat_le order.player setup.players && nat_le (ids_in order.command) 256 && nat_lt (count_by (is_by order.player) orders) 64

-- nothing is read
abbrev pub nothing : Reading
nothing = record { turns = []; digests = []; orders = [] }

-- the turn is at its end
abbrev pub with_digest : Reading → List ℕ → Reading
with_digest read digest = record { turns = read.turns ++ read.orders ∷ []; digests = read.digests ++ digest ∷ []; orders = [] }

-- the turn has one command more
abbrev pub with_order : Reading → PlayerCommand → Reading
with_order read order = record read { orders = read.orders ++ order ∷ [] }

-- a command is read, where the turn may have it; turn 0 has none
abbrev pub taken_order : Setup → Reading → PlayerCommand → Option Reading
taken_order setup read order =
    if nat_lt 0 (length read.digests) && may_have setup read.orders order then Some (with_order read order) else None

-- what is read after a line that no digest ends
abbrev pub taken_other : Setup → Reading → List ℕ → Option Reading
taken_other setup read line = order_in (length read.digests) line >>= taken_order setup read

-- what is read after a line, by the digest that it has
abbrev pub taken_by : Setup → Reading → List ℕ → Option (List ℕ) → Option Reading
taken_by setup read line (Some digest) = Some (with_digest read digest)
taken_by setup read line None = taken_other setup read line

-- what is read after a line of the next turn, where the match has that
unfoldable pub taken : Setup → Reading → List ℕ → Option Reading
taken setup read line =
    if nat_lt setup.turns (length read.digests) then None else taken_by setup read line (digest_in (length read.digests) line)

-- the log that was read, where it ends with the end of a turn
abbrev pub log_in : Reading → Option Log
log_in read =
    if nat_lt 0 (length read.digests) && (length read.orders == 0) then Some (record { turns = drop 1 read.turns; digests = read.digests }) else None

-- the value, or the number of the line that is refused
abbrev pub or_refused : {X : Type 0} → ℕ → Option X → Result X ℕ
or_refused number (Some x) = Ok x
or_refused number None = Err number

-- what comes of the next reading, or the number of the line that is refused
abbrev pub next_or_refused : {X : Type 0} → ℕ → Option Reading → (Reading → Result X ℕ) → Result X ℕ
next_or_refused number None more = Err number
next_or_refused number (Some next) more = more next

-- the log of what is read and of the parts between line feeds that follow, of which the first one is this line
unfoldable pub read_parts : Setup → Reading → ℕ → List (List ℕ) → Result Log ℕ
read_parts setup read number [] = Err number
read_parts setup read number (rest ∷ []) = if length rest == 0 then or_refused number (log_in read) else Err number
read_parts setup read number (line ∷ part ∷ parts) =
    next_or_refused number (taken setup read line) (λ next. read_parts setup next (number + 1) (part ∷ parts))

-- the log of the parts of a whole text
unfoldable pub log_of_parts : Setup → List (List ℕ) → Result Log ℕ
log_of_parts setup [] = Err 1
log_of_parts setup (rest ∷ []) = Err 1
log_of_parts setup (line ∷ part ∷ parts) = if bytes_eq line (header_line setup) then read_parts setup nothing 2 (part ∷ parts) else Err 1

-- the log that bytes spell
abbrev pub log_of : Setup → List ℕ → Result Log ℕ
log_of setup bytes = log_of_parts setup (parts_of bytes)

-- bytes are a line, a line feed and the rest
abbrev pub IsFirstLine : List ℕ → List ℕ → List ℕ → Type 0
IsFirstLine bytes line rest = (parts_of bytes ≡ line ∷ parts_of rest) × (length rest + length line + 1 ≡ length bytes)
