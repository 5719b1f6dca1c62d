-- The words after the program's name, and what they ask for.
use Rattle.{sim_base.specs.NumberText.is_digit, sim_top.specs.Common.Global, sim_trial.specs.Trial.is_trial}
use Rattle.std.specs.{Prelude.Option, Prelude.String, Prelude.option_map, Prelude.option_and_then, Str.bytes_eq}
use Rattle.std.specs.Prelude.{ℕ, ◌+◌, ◌-◌, ◌*◌, Bool, true, false, ◌&&◌, List, [], ◌∷◌, map, length, if◌then◌else◌, nat_le, Some, None, string_bytes, codes}
use Rattle.sim_top.specs.declared.words.Request.{Request, TheVariants.Show, TheVariants.Sight, TheVariants.State, TheVariants.Stock, TheVariants.Trial}
use Rattle.sim_top.specs.declared.words.Request.TheVariants.{Check, Compare, Film, Log, Parts, Play, Realm, Record, Rejoin, Resight, Resume, Serve, Session}

-- what is asked for: to play a match; to store the state of a turn of it in a file; to play on from a stored state; to play it with a
-- second client that joins at a turn; to run a session of it over a list of steps; to show a stored state; to compare two; to run the
-- server over a schedule; to play the trial that is made of three numbers; to play a match by an economy; to tell the territories of a
-- turn of a match; to tell what its players see at a turn, and store in a file what they have explored; to tell what they see in the end,
-- from a stored state on and the explored cells of a file; to store the log of a match in a file; to run a session and store the log of its
-- released turns; to check a log of a match; to tell the states of a match, so many turns apart; to tell the parts of its templates
pub data Asked : Type 0 where
  to_play : List ℕ → Asked
  to_store : List ℕ → ℕ → List ℕ → Asked
  to_resume : List ℕ → List ℕ → Asked
  to_rejoin : List ℕ → ℕ → Asked
  to_session : List ℕ → List ℕ → Asked
  to_show : List ℕ → List ℕ → Asked
  to_compare : List ℕ → List ℕ → List ℕ → Asked
  to_serve : List ℕ → Asked
  to_try : ℕ → ℕ → ℕ → Asked
  to_stock : List ℕ → List ℕ → Asked
  to_realm : List ℕ → ℕ → Asked
  to_sight : List ℕ → ℕ → List ℕ → Asked
  to_resight : List ℕ → List ℕ → List ℕ → Asked
  to_log : List ℕ → List ℕ → Asked
  to_record : List ℕ → List ℕ → List ℕ → Asked
  to_check : List ℕ → List ℕ → Asked
  to_film : List ℕ → ℕ → Asked
  to_parts : List ℕ → Asked

-- the request of the code, with its names as bytes
abbrev pub asked : Request → Asked
asked (Play game) = to_play game.now
asked (State game turn out) = to_store game.now turn out.now
asked (Resume game stored) = to_resume game.now stored.now
asked (Rejoin game turn) = to_rejoin game.now turn
asked (Session game steps) = to_session game.now steps.now
asked (Show game stored) = to_show game.now stored.now
asked (Compare game left right) = to_compare game.now left.now right.now
asked (Serve schedule) = to_serve schedule.now
asked (Trial seed units turns) = to_try seed units turns
asked (Stock game economy) = to_stock game.now economy.now
asked (Realm game turn) = to_realm game.now turn
asked (Sight game turn out) = to_sight game.now turn out.now
asked (Resight game stored map) = to_resight game.now stored.now map.now
asked (Log game out) = to_log game.now out.now
asked (Record game steps out) = to_record game.now steps.now out.now
asked (Check game log) = to_check game.now log.now
asked (Film game every) = to_film game.now every
asked (Parts game) = to_parts game.now

-- the words as bytes
abbrev pub words_of : List (String Global) → List (List ℕ)
words_of words = map string_bytes words

-- the number that digits spell behind those of `n`
abbrev pub digits_from : ℕ → List ℕ → Option ℕ
digits_from n [] = Some n
digits_from n (c ∷ cs) = if is_digit c then digits_from (n * 10 + (c - 48)) cs else None

-- a turn: one to nine digits
abbrev pub turn_in : List ℕ → Option ℕ
turn_in text = if nat_le 1 (length text) && nat_le (length text) 9 then digits_from 0 text else None

-- a number that is not 0
abbrev pub not_zero : ℕ → Option ℕ
not_zero n = if nat_le 1 n then Some n else None

-- how many turns lie between two that are told: one to nine digits, and not 0
abbrev pub every_in : List ℕ → Option ℕ
every_in text = option_and_then not_zero (turn_in text)

-- the trial of these numbers, if they are within its limits
abbrev pub trial_of : Option ℕ → Option ℕ → Option ℕ → Option Asked
trial_of (Some seed) (Some units) (Some turns) = if is_trial seed units turns then Some (to_try seed units turns) else None
trial_of seed units turns = None

-- what a command asks of one file
abbrev pub asked_of_one : List ℕ → List ℕ → Option Asked
asked_of_one command file =
    if bytes_eq command (codes "play") then Some (to_play file) else if bytes_eq command (codes "serve") then Some (to_serve file)
    else if bytes_eq command (codes "parts") then Some (to_parts file) else None

-- what a command asks about a log
abbrev pub asked_of_log : List ℕ → List ℕ → List ℕ → Option Asked
asked_of_log command a b =
    if bytes_eq command (codes "log") then Some (to_log a b) else if bytes_eq command (codes "check") then Some (to_check a b) else None

-- what it asks of two words
abbrev pub asked_of_two : List ℕ → List ℕ → List ℕ → Option Asked
asked_of_two command a b =
    if bytes_eq command (codes "resume") then Some (to_resume a b)
    else if bytes_eq command (codes "rejoin") then option_map (to_rejoin a) (turn_in b)
    else if bytes_eq command (codes "session") then Some (to_session a b)
    else if bytes_eq command (codes "show") then Some (to_show a b)
    else if bytes_eq command (codes "stock") then Some (to_stock a b)
    else if bytes_eq command (codes "realm") then option_map (to_realm a) (turn_in b)
    else if bytes_eq command (codes "film") then option_map (to_film a) (every_in b) else asked_of_log command a b

-- what a command asks about what the players see
abbrev pub asked_of_sight : List ℕ → List ℕ → List ℕ → List ℕ → Option Asked
asked_of_sight command a b c =
    if bytes_eq command (codes "sight") then option_map (λ n. to_sight a n c) (turn_in b)
    else if bytes_eq command (codes "resight") then Some (to_resight a b c) else None

-- what it asks of three words
abbrev pub asked_of_three : List ℕ → List ℕ → List ℕ → List ℕ → Option Asked
asked_of_three command a b c =
    if bytes_eq command (codes "state") then option_map (λ n. to_store a n c) (turn_in b)
    else if bytes_eq command (codes "compare") then Some (to_compare a b c)
    else if bytes_eq command (codes "trial") then trial_of (turn_in a) (turn_in b) (turn_in c)
    else if bytes_eq command (codes "record") then Some (to_record a b c) else asked_of_sight command a b c

-- what the words ask for, if they are in the table of commands
abbrev pub asked_by : List (List ℕ) → Option Asked
asked_by (command ∷ a ∷ []) = asked_of_one command a
asked_by (command ∷ a ∷ b ∷ []) = asked_of_two command a b
asked_by (command ∷ a ∷ b ∷ c ∷ []) = asked_of_three command a b c
asked_by other = None

-- the file that is to be written
abbrev pub out_of : Option Asked → Option (List ℕ)
out_of (Some (to_store game turn out)) = Some out
out_of (Some (to_sight game turn out)) = Some out
out_of (Some (to_log game out)) = Some out
out_of (Some (to_record game steps out)) = Some out
out_of other = None

-- whether it is to compare two states, or a log and the match that is played by it
abbrev pub is_comparison : Asked → Bool
is_comparison (to_compare game left right) = true
is_comparison (to_check game log) = true
is_comparison other = false

-- whether it is to run a session
abbrev pub is_session : Option Asked → Bool
is_session (Some (to_session game steps)) = true
is_session (Some (to_record game steps out)) = true
is_session other = false

-- whether it names the file of a match, or makes a match
abbrev pub has_match : Asked → Bool
has_match (to_serve schedule) = false
has_match other = true

-- whether it names a turn
abbrev pub has_turn : Asked → Bool
has_turn (to_store game turn out) = true
has_turn (to_rejoin game turn) = true
has_turn (to_realm game turn) = true
has_turn (to_sight game turn out) = true
has_turn other = false

-- whether it names a file with a stored state
abbrev pub loads_state : Asked → Bool
loads_state (to_resume game stored) = true
loads_state (to_show game stored) = true
loads_state (to_compare game left right) = true
loads_state (to_resight game stored map) = true
loads_state other = false

-- whether it names a file with a list of steps or arrivals
abbrev pub reads_list : Asked → Bool
reads_list (to_serve schedule) = true
reads_list (to_session game steps) = true
reads_list (to_record game steps out) = true
reads_list other = false

-- whether it names a file with explored cells
abbrev pub reads_map : Asked → Bool
reads_map (to_resight game stored map) = true
reads_map other = false

-- whether it names a file with a log
abbrev pub reads_log : Asked → Bool
reads_log (to_check game log) = true
reads_log other = false

-- whether it names a file with an economy
abbrev pub reads_economy : Asked → Bool
reads_economy (to_stock game economy) = true
reads_economy other = false

-- whether it names a file to be read
abbrev pub reads_file : Asked → Bool
reads_file (to_try seed units turns) = false
reads_file other = true
