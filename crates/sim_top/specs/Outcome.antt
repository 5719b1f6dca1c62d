-- What the words ask for: a status, a text and perhaps a file that is saved, by the files that are held. A stored state is
-- the one that its bytes stand for, or the first cause for which they stand for none.
use Rattle.sim_codec.specs.declared.fault.StateFault.TheVariants as stored
use Rattle.sim_store.specs.declared.fault.StoreFault.TheVariants as store
use Rattle.sim_vision.specs.declared.fault.SightFault.TheVariants as sights
use Rattle.{sim_client.specs.StageWords.nowhere, sim_codec.specs.Loading.RefusedFor, sim_diff.specs.declared.place.Place.Place}
use Rattle.sim_play.specs.{Films.digests_after, Lines.{rejoin_text, resight_text, sight_file, sight_text}, Realms.TellsRealm}
use Rattle.{sim_replay.specs.{Apart.first_apart, declared.apart.Apart.Apart, Logs.IsRefusedAt}, sim_report.specs.Places.place_text}
use Rattle.{sim_session.specs.Served.served_text, sim_setup.specs.Refusals.Refusal, sim_store.specs.Reading.reading_of, sim_territory.specs.Realms.realm_of}
use Rattle.sim_top.specs.Common.{after, agree_line, AllBuiltAtMost, AllStand, apart_lines, AreCleared, AreFed, builds_of, difference_of, digest, Economy}
use Rattle.sim_top.specs.Common.{economy_of, File, file_in, film_text, Ghosts, IsLog, IsSetup, IsStepList, joined_at, Log, log_after, logged_line, Match}
use Rattle.sim_top.specs.Common.{match_turns, Meaning, own_turns, parts_text, play_text, refusal_of, refusal_text, released_turns, resume_text, Rig, rigs_by}
use Rattle.sim_top.specs.Common.{saved_line, Schedule, schedule_of, session_of, session_setup_of, session_text, Setup, setup_of, show_text, Sight, SightFault}
use Rattle.sim_top.specs.Common.{spelling, StandsFor, State, state_after, StateFault, StepList, steps_of, stock_text, stored_text, StoreFault, text_of_log}
use Rattle.sim_top.specs.{Common.{trial_line, Turn, usage_text, Vision}, declared.status.Status.{Status, TheVariants.{Differs, Done, EconomyRefused}}}
use Rattle.sim_top.specs.declared.status.Status.TheVariants.{ListRefused, LogRefused, MatchRefused, NoFile, NoSuchTurn, ReadFault, SightRefused, StateRefused}
use Rattle.sim_top.specs.{declared.status.Status.TheVariants.{TooLong, Usage}, Words.{Asked, asked_by, to_check, to_compare, to_film, to_log, to_parts}}
use Rattle.sim_top.specs.Words.{to_play, to_realm, to_record, to_rejoin, to_resight, to_resume, to_serve, to_session, to_show, to_sight, to_stock, to_store}
use Rattle.{sim_top.specs.Words.to_try, sim_trial.specs.Trial.text_of_trial, sim_vision.specs.Vision.cells_in, std.specs.Prelude.{All, codes, drop, Err, IfOk}}
use Rattle.std.specs.Prelude.{if◌then◌else◌, length, List, nat_lt, None, Ok, Option, Result, slice_index_or, Some, ℕ, [], ◌*◌, ◌+◌, ◌==◌, ◌≡◌}
use Rattle.sim_report.specs.declared.refusal.Refusal.TheVariants.{Economy as OfEconomy, List as OfList, Log as OfLog}

-- what a run comes to: a status, the whole text, and the file that it saves, if any
pub record Outcome : Type 0 where
  pub status : Status
  pub text : List ℕ
  pub saved : Option File

-- a text alone
abbrev pub printed : Status → List ℕ → Outcome
printed status text = record { status = status; text = text; saved = None }

-- ---- what is read on the way, or the outcome with which it ends there

-- the bytes that were read, or the outcome where there are none
abbrev pub bytes_by : Result (List ℕ) StoreFault → Result (List ℕ) Outcome
bytes_by (Ok bytes) = Ok bytes
bytes_by (Err store.NoFile) = Err (printed NoFile [])
bytes_by (Err store.TooLong) = Err (printed TooLong [])
bytes_by (Err other) = Err (printed ReadFault [])

-- the bytes of a file
unfoldable pub bytes_in : List File → List ℕ → Result (List ℕ) Outcome
bytes_in files name = bytes_by (reading_of (file_in files name))

-- the match that was read, or the outcome of its refusal
abbrev pub setup_by : Result Setup Refusal → Result Setup Outcome
setup_by (Ok setup) = Ok setup
setup_by (Err refusal) = Err (printed MatchRefused (refusal_text (Match refusal.code refusal.index)))

-- the match that bytes are, if they were read
abbrev pub match_by : Result (List ℕ) Outcome → Result Setup Outcome
match_by (Ok bytes) = setup_by (setup_of bytes)
match_by (Err ended) = Err ended

-- the match of a file
unfoldable pub match_in : List File → List ℕ → Result Setup Outcome
match_in files name = match_by (bytes_in files name)

-- the match that bytes are for a session, if they were read
abbrev pub session_match_by : Result (List ℕ) Outcome → Result Setup Outcome
session_match_by (Ok bytes) = setup_by (session_setup_of bytes)
session_match_by (Err ended) = Err ended

-- the match of a file for a session, which has no commands of its own
unfoldable pub session_match_in : List File → List ℕ → Result Setup Outcome
session_match_in files name = session_match_by (bytes_in files name)

-- the match of a trial, or the outcome where its text is refused
unfoldable pub trial_match : ℕ → ℕ → ℕ → Result Setup Outcome
trial_match seed units turns = setup_by (setup_of (text_of_trial seed units turns))

-- the list that was read, or the outcome of its refusal
abbrev pub list_by : {X : Type 0} → Result X ℕ → Result X Outcome
list_by (Ok list) = Ok list
list_by (Err index) = Err (printed ListRefused (refusal_text (OfList index)))

-- the list that a reading finds in bytes, if they were read
abbrev pub listed_by : {X : Type 0} → (List ℕ → Result X ℕ) → Result (List ℕ) Outcome → Result X Outcome
listed_by reading (Ok bytes) = list_by (reading bytes)
listed_by reading (Err ended) = Err ended

-- the schedule of a file
unfoldable pub schedule_in : List File → List ℕ → Result Schedule Outcome
schedule_in files name = listed_by schedule_of (bytes_in files name)

-- the list of steps of a file, for a match of so many players
unfoldable pub steps_in : List File → List ℕ → ℕ → Result StepList Outcome
steps_in files name players = listed_by (steps_of players) (bytes_in files name)

-- the economy that was read, or the outcome of its refusal
abbrev pub economy_by : Result Economy ℕ → Result Economy Outcome
economy_by (Ok economy) = Ok economy
economy_by (Err index) = Err (printed EconomyRefused (refusal_text (OfEconomy index)))

-- the economy of a match that bytes are, if they were read
abbrev pub economy_from : Setup → Result (List ℕ) Outcome → Result Economy Outcome
economy_from setup (Ok bytes) = economy_by (economy_of setup bytes)
economy_from setup (Err ended) = Err ended

-- the economy of a match from a file
unfoldable pub economy_in : List File → List ℕ → Setup → Result Economy Outcome
economy_in files name setup = economy_from setup (bytes_in files name)

-- an outcome of what comes next, or the one with which it ended before
abbrev pub Then : {X : Type 0} → Result X Outcome → (X → Outcome → Type 0) → Outcome → Type 0
Then (Ok x) next wanted = next x wanted
Then (Err ended) next wanted = wanted ≡ ended

-- the state that bytes stand for, or the first cause for which they stand for none
abbrev pub IsStored : Setup → List ℕ → Result State StateFault → Type 0
IsStored setup bytes (Ok state) = StandsFor setup bytes state
IsStored setup bytes (Err stored.OutOfMemory) = ⊥
IsStored setup bytes (Err fault) = RefusedFor setup bytes fault

-- the number that is printed of a cause
abbrev pub code_of : StateFault → ℕ
code_of stored.NotState = 1
code_of stored.OtherMatch = 2
code_of stored.Grammar = 3
code_of stored.OutOfMemory = 0

-- the state that was loaded, or the outcome of its refusal
abbrev pub state_by : List ℕ → Result State StateFault → Result State Outcome
state_by name (Ok state) = Ok state
state_by name (Err fault) = Err (printed StateRefused (stored_text (code_of fault) name))

-- an outcome of what comes next for the state that the bytes of a file stand for
pub record ThenStored (setup : Setup) (name bytes : List ℕ) (next : State → Outcome → Type 0) (wanted : Outcome) : Type 0 where
  pub found : Result State StateFault
  pub stored : IsStored setup bytes found
  pub goes_on : Then (state_by name found) next wanted

-- ---- the commands

-- the outcome of a state that is stored
abbrev pub stored_at : Setup → ℕ → List ℕ → State → Outcome
stored_at setup turn out state = record {
  status = Done;
  text = saved_line turn (length (spelling setup state)) (digest setup state);
  saved = Some (record { name = out; bytes = spelling setup state });
}

-- the state of a turn, which is `after` the match's own turns
abbrev pub store_outcome : Setup → ℕ → List ℕ → Outcome
store_outcome setup turn out =
    if nat_lt setup.turns turn then printed NoSuchTurn (refusal_text (Turn turn setup.turns))
    else stored_at setup turn out (after setup (own_turns setup 0 turn))

-- the lines of a match that a second client joins at a turn
abbrev pub rejoin_outcome : Setup → ℕ → Outcome
rejoin_outcome setup turn = if nat_lt setup.turns turn then printed NoSuchTurn (refusal_text (Turn turn setup.turns)) else printed Done (rejoin_text setup turn)

-- the line of a trial, whose state is `after` all turns of its match
abbrev pub trial_outcome : ℕ → ℕ → ℕ → Setup → Outcome
trial_outcome seed units turns setup = printed Done (trial_line seed units turns setup (after setup (own_turns setup 0 setup.turns)))

-- the outcome of a trial, or that of the refusal of its text
abbrev pub IsTrialOutcome : ℕ → ℕ → ℕ → Outcome → Type 0
IsTrialOutcome seed units turns wanted = Then (trial_match seed units turns) (λ setup wanted. wanted ≡ trial_outcome seed units turns setup) wanted

-- the territories of a state are told
pub record IsRealmOutcome (setup : Setup) (state : State) (wanted : Outcome) : Type 0 where
  pub text : List ℕ
  pub tells : TellsRealm (realm_of setup state) text
  pub printed : wanted ≡ printed Done text

-- the turn that is asked for, or the outcome where the match has not so many
abbrev pub turn_by : Setup → ℕ → Result ℕ Outcome
turn_by setup turn = if nat_lt setup.turns turn then Err (printed NoSuchTurn (refusal_text (Turn turn setup.turns))) else Ok turn

-- the outcome of the territories of a turn, whose state is `after` the match's own turns
abbrev pub RealmAt : ℕ → Setup → Outcome → Type 0
RealmAt turn setup = Then (turn_by setup turn) (λ turn. IsRealmOutcome setup (after setup (own_turns setup 0 turn)))

-- the outcome of lines of what the players see, with a file of what they have explored
abbrev pub seen_with : List ℕ → List ℕ → List ℕ → Outcome
seen_with text out bytes = record { status = Done; text = text; saved = Some (record { name = out; bytes = bytes }) }

-- that of a turn of a match
abbrev pub seen_at : Setup → ℕ → List ℕ → Outcome
seen_at setup turn out = seen_with (sight_text setup turn) out (sight_file setup turn)

-- the same, or that the match has not the turn
abbrev pub sight_outcome : Setup → ℕ → List ℕ → Outcome
sight_outcome setup turn out = if nat_lt setup.turns turn then printed NoSuchTurn (refusal_text (Turn turn setup.turns)) else seen_at setup turn out

-- the number that is printed of why explored cells are refused
abbrev pub sight_code : SightFault → ℕ
sight_code sights.Length = 1
sight_code sights.NotBit = 2
sight_code sights.Unseen = 3
sight_code sights.OutOfMemory = 0

-- explored cells that are taken over, or the outcome of their refusal
abbrev pub map_by : Option SightFault → List ℕ → Result (List ℕ) Outcome
map_by None bytes = Ok bytes
map_by (Some fault) bytes = Err (printed SightRefused (refusal_text (Sight (sight_code fault))))

-- the explored cells of a file that are taken over at a state, or the outcome of the first cause for which they are not
abbrev pub map_at : Setup → State → Result (List ℕ) Outcome → Result (List ℕ) Outcome
map_at setup state (Ok bytes) = map_by (refusal_of setup state.rows bytes) bytes
map_at setup state (Err ended) = Err ended

-- what the players see in the end is told, from a state on at which a sight was joined: whichever explored cells it was joined with
pub record IsSeenFrom (setup : Setup) (state : State) (sight : Vision) (wanted : Outcome) : Type 0 where
  pub text : List ℕ
  pub tells : (bytes : List ℕ) → sight ≡ joined_at setup state bytes → length bytes ≡ setup.players * cells_in setup → text ≡ resight_text setup state bytes
  pub printed : wanted ≡ printed Done text

-- the outcome of what the players see in the end, from a state on and the explored cells of a file
abbrev pub IsResighted : Setup → State → Result (List ℕ) Outcome → Outcome → Type 0
IsResighted setup state file wanted = Then (map_at setup state file) (λ bytes wanted. wanted ≡ printed Done (resight_text setup state bytes)) wanted

-- the least place at which two states differ, or that they are the same
abbrev pub compare_by : Option Place → Outcome
compare_by None = printed Done (codes "same\n")
compare_by (Some place) = printed Differs (place_text place)

-- the outcome of comparing a state with the one that the bytes of a file stand for
abbrev pub IsCompared : Setup → List ℕ → State → Result (List ℕ) Outcome → Outcome → Type 0
IsCompared setup name state file wanted =
    Then file (λ bytes. ThenStored setup name bytes (λ other wanted. wanted ≡ compare_by (difference_of state other))) wanted

-- the log that bytes are, or the line at which they are refused
abbrev pub IsLogged : Setup → List ℕ → Result Log ℕ → Type 0
IsLogged setup bytes (Ok log) = IsLog setup log × (bytes ≡ text_of_log setup log)
IsLogged setup bytes (Err line) = IsRefusedAt setup bytes line

-- the log that was read, or the outcome of its refusal
abbrev pub log_by : Result Log ℕ → Result Log Outcome
log_by (Ok log) = Ok log
log_by (Err line) = Err (printed LogRefused (refusal_text (OfLog line)))

-- an outcome of what comes next for the log that the bytes of a file are
pub record ThenLog (setup : Setup) (bytes : List ℕ) (next : Log → Outcome → Type 0) (wanted : Outcome) : Type 0 where
  pub found : Result Log ℕ
  pub logged : IsLogged setup bytes found
  pub goes_on : Then (log_by found) next wanted

-- a log that is stored: the word that asked for it, its last turn, and how many bytes it has
abbrev pub logged_as : List ℕ → Setup → List ℕ → Log → Outcome
logged_as word setup out log = record {
  status = Done;
  text = logged_line word (length log.turns) (length (text_of_log setup log));
  saved = Some (record { name = out; bytes = text_of_log setup log });
}

-- a log agrees with its match up to its last turn, or the first turn is told at which it does not
abbrev pub apart_by : ℕ → Option Apart → Outcome
apart_by last None = printed Done (agree_line last)
apart_by last (Some apart) = printed Differs (apart_lines apart.turn apart.told apart.played)

-- what comes of the digests of a log beside those that were played
abbrev pub check_by : Log → List (List ℕ) → Outcome
check_by log played = apart_by (length log.turns) (first_apart log.digests played)

-- what comes of a log: its digests beside those of the states after its own commands
abbrev pub check_outcome : Setup → Log → Outcome
check_outcome setup log = check_by log (digests_after setup log.turns)

-- an outcome of what is asked for
abbrev pub IsOutcomeOf : List File → Option Asked → Outcome → Type 0
IsOutcomeOf files None wanted = wanted ≡ printed Usage usage_text
IsOutcomeOf files (Some (to_play game)) wanted = Then (match_in files game) (λ setup wanted. wanted ≡ printed Done (play_text setup)) wanted
IsOutcomeOf files (Some (to_store game turn out)) wanted = Then (match_in files game) (λ setup wanted. wanted ≡ store_outcome setup turn out) wanted
IsOutcomeOf files (Some (to_resume game name)) wanted =
    Then (match_in files game)
    (λ setup. Then (bytes_in files name) (λ bytes. ThenStored setup name bytes (λ state wanted. wanted ≡ printed Done (resume_text setup state)))) wanted
IsOutcomeOf files (Some (to_rejoin game turn)) wanted = Then (match_in files game) (λ setup wanted. wanted ≡ rejoin_outcome setup turn) wanted
IsOutcomeOf files (Some (to_session game steps)) wanted =
    Then (session_match_in files game) (λ setup. Then (steps_in files steps setup.players) (λ list wanted. wanted ≡ printed Done (session_text setup list)))
    wanted
IsOutcomeOf files (Some (to_show game name)) wanted =
    Then (match_in files game)
    (λ setup. Then (bytes_in files name) (λ bytes. ThenStored setup name bytes (λ state wanted. wanted ≡ printed Done (show_text setup state)))) wanted
IsOutcomeOf files (Some (to_compare game left right)) wanted =
    Then (match_in files game)
    (λ setup. Then (bytes_in files left) (λ bytes. ThenStored setup left bytes (λ state. IsCompared setup right state (bytes_in files right)))) wanted
IsOutcomeOf files (Some (to_serve name)) wanted = Then (schedule_in files name) (λ schedule wanted. wanted ≡ printed Done (served_text schedule)) wanted
IsOutcomeOf files (Some (to_try seed units turns)) wanted = IsTrialOutcome seed units turns wanted
IsOutcomeOf files (Some (to_stock game name)) wanted =
    Then (match_in files game) (λ setup. Then (economy_in files name setup) (λ economy wanted. wanted ≡ printed Done (stock_text setup economy))) wanted
IsOutcomeOf files (Some (to_realm game turn)) wanted = Then (match_in files game) (RealmAt turn) wanted
IsOutcomeOf files (Some (to_sight game turn out)) wanted = Then (match_in files game) (λ setup wanted. wanted ≡ sight_outcome setup turn out) wanted
IsOutcomeOf files (Some (to_resight game name map)) wanted =
    Then (match_in files game)
    (λ setup. Then (bytes_in files name) (λ bytes. ThenStored setup name bytes (λ state. IsResighted setup state (bytes_in files map)))) wanted
IsOutcomeOf files (Some (to_log game out)) wanted =
    Then (match_in files game) (λ setup wanted. wanted ≡ logged_as (codes "log") setup out (log_after setup (match_turns setup))) wanted
IsOutcomeOf files (Some (to_record game steps out)) wanted =
    Then (session_match_in files game) (λ setup. Then (steps_in files steps setup.players)
    (λ list wanted. wanted ≡ logged_as (codes "record") setup out (log_after setup (released_turns (session_of setup list))))) wanted
IsOutcomeOf files (Some (to_check game name)) wanted =
    Then (match_in files game) (λ setup. Then (bytes_in files name) (λ bytes. ThenLog setup bytes (λ log wanted. wanted ≡ check_outcome setup log))) wanted
IsOutcomeOf files (Some (to_film game every)) wanted = Then (match_in files game) (λ setup wanted. wanted ≡ printed Done (film_text setup every)) wanted
IsOutcomeOf files (Some (to_parts game)) wanted = Then (match_in files game) (λ setup wanted. wanted ≡ printed Done (parts_text setup.templates)) wanted

-- the outcome of the words over the held files
abbrev pub IsOutcome : List (List ℕ) → List File → Outcome → Type 0
IsOutcome words files wanted = IsOutcomeOf files (asked_by words) wanted

-- A session that is asked for: its match and its steps are those of the files that are held, and what its rigs have come to.

-- this holds of the match and the list of steps that the files of a session have, where one is asked for
abbrev pub OfSession : List File → Option Asked → (Setup → StepList → Type 0) → Type 0
OfSession files (Some (to_session game steps)) P = IfOk (session_match_in files game) (λ setup. IfOk (steps_in files steps setup.players) (P setup))
OfSession files other P = Unit {0}

-- The match and the steps are within their limits. The rig of each client stands for its state in the end, or is cleared where it has
-- none; it was built at most once for a start and once for each load. The rigs of no client are as they were.
pub record IsHostedBy {X : Type 0} {F : X → Type 0} (meaning : (i : X) → F i → Meaning) (setup : Setup) (list : StepList) (old new : List (Rig X F)) :
    Type 0 where
  pub limits : IsSetup setup
  pub steps : IsStepList setup.players list
  pub stand : AllStand setup (session_of setup list) (rigs_by new meaning)
  pub built : AllBuiltAtMost (builds_of setup list) setup.players (rigs_by old meaning) (rigs_by new meaning)
  pub spare : drop setup.players new ≡ drop setup.players old

-- the same, as a clause has it
abbrev pub IsHosted : {X : Type 0} {F : X → Type 0} → ((i : X) → Ghosts (F i)) → Setup → StepList → List (Rig X F) → List (Rig X F) → Type 0
IsHosted sys setup list old new = IsHostedBy (λ i v. (sys i).meaning v) setup list old new

-- this holds of the match and the list of steps of a session that is to be recorded
abbrev pub OfRecord : List File → Option Asked → (Setup → StepList → Type 0) → Type 0
OfRecord files (Some (to_record game steps out)) P = IfOk (session_match_in files game) (λ setup. IfOk (steps_in files steps setup.players) (P setup))
OfRecord files other P = Unit {0}

-- how often the rig of a client is built at most where the first of them plays the log too
abbrev pub builds_with_log : Setup → StepList → ℕ → ℕ
builds_with_log setup list c = builds_of setup list c + (if c == 1 then 1 else 0)

-- a session was recorded: the first rig stands for the last state of the log, and the others are cleared
pub record IsRecordedBy {X : Type 0} {F : X → Type 0} (meaning : (i : X) → F i → Meaning) (setup : Setup) (list : StepList) (new : List (Rig X F)) :
    Type 0 where
  pub first : AreFed setup (state_after setup (released_turns (session_of setup list))) (slice_index_or (rigs_by new meaning) 0 nowhere)
  pub others : All AreCleared (drop 1 (rigs_by new meaning))

-- the same, as a clause has it
abbrev pub IsRecorded : {X : Type 0} {F : X → Type 0} → ((i : X) → Ghosts (F i)) → Setup → StepList → List (Rig X F) → Type 0
IsRecorded sys setup list new = IsRecordedBy (λ i v. (sys i).meaning v) setup list new
