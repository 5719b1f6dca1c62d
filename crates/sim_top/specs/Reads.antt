-- How many bytes are read for what is asked, and which file is found missing before any memory is taken.
use Rattle.{sim_store.specs.Shelf.{after_read_fault, Rose, RoseBy}, sim_top.specs.Common.{after_giving, after_miss, Appends, Counts, Economy, File, file_in}}
use Rattle.sim_top.specs.Common.{file_limit, HeldSet, IsLog, Log, raised, Schedule, Setup, StandsFor, State, StepList, text_of_log}
use Rattle.sim_top.specs.declared.status.Status.{Status, TheVariants.{Differs, Done, EconomyRefused, ListRefused, LogRefused, MatchRefused, NoFile, NoSuchTurn}}
use Rattle.sim_top.specs.declared.status.Status.TheVariants.{OutOfMemory, ReadFault, SightRefused, StateRefused, TooLong, Usage, WriteFault}
use Rattle.sim_top.specs.Outcome.{bytes_in, economy_in, IsOutcome, map_at, match_in, Outcome, schedule_in, session_match_in, steps_in, trial_match}
use Rattle.sim_top.specs.Words.{Asked, has_match, has_turn, is_comparison, loads_state, reads_economy, reads_file, reads_list, reads_log, reads_map, to_check}
use Rattle.sim_top.specs.Words.{to_compare, to_film, to_log, to_parts, to_play, to_realm, to_record, to_rejoin, to_resight, to_resume, to_serve, to_session}
use Rattle.sim_top.specs.Words.{to_show, to_sight, to_stock, to_store, to_try}
use Rattle.std.specs.Prelude.{IfOk, IsTrue, length, List, None, Ok, Option, Some, take, ℕ, [], ◌+◌, ◌<◌, ◌≡◌, ◌≢◌, ◌≤◌, ◌⊎◌}

-- how many bytes are held, if any are
abbrev pub length_of : Option (List ℕ) → ℕ
length_of None = 0
length_of (Some bytes) = length bytes

-- how many bytes a name holds
abbrev pub length_in : List File → List ℕ → ℕ
length_in files name = length_of (file_in files name)

-- how many bytes the files have that are read for what is asked
abbrev pub length_read : List File → Asked → ℕ
length_read files (to_play game) = length_in files game
length_read files (to_store game turn out) = length_in files game
length_read files (to_resume game stored) = length_in files game + length_in files stored
length_read files (to_rejoin game turn) = length_in files game
length_read files (to_session game steps) = length_in files game + length_in files steps
length_read files (to_show game stored) = length_in files game + length_in files stored
length_read files (to_compare game left right) = length_in files game + length_in files left + length_in files right
length_read files (to_serve schedule) = length_in files schedule
length_read files (to_try seed units turns) = 0
length_read files (to_stock game economy) = length_in files game + length_in files economy
length_read files (to_realm game turn) = length_in files game
length_read files (to_sight game turn out) = length_in files game
length_read files (to_resight game stored map) = length_in files game + length_in files stored + length_in files map
length_read files (to_log game out) = length_in files game
length_read files (to_record game steps out) = length_in files game + length_in files steps
length_read files (to_check game log) = length_in files game + length_in files log
length_read files (to_film game every) = length_in files game
length_read files (to_parts game) = length_in files game

-- how many bytes the file has that is read first
abbrev pub length_first : List File → Asked → ℕ
length_first files (to_play game) = length_in files game
length_first files (to_store game turn out) = length_in files game
length_first files (to_resume game stored) = length_in files game
length_first files (to_rejoin game turn) = length_in files game
length_first files (to_session game steps) = length_in files game
length_first files (to_show game stored) = length_in files game
length_first files (to_compare game left right) = length_in files game
length_first files (to_serve schedule) = length_in files schedule
length_first files (to_try seed units turns) = 0
length_first files (to_stock game economy) = length_in files game
length_first files (to_realm game turn) = length_in files game
length_first files (to_sight game turn out) = length_in files game
length_first files (to_resight game stored map) = length_in files game
length_first files (to_log game out) = length_in files game
length_first files (to_record game steps out) = length_in files game
length_first files (to_check game log) = length_in files game
length_first files (to_film game every) = length_in files game
length_first files (to_parts game) = length_in files game

-- a file is not there
abbrev pub Lacks : List File → List ℕ → Type 0
Lacks files name = file_in files name ≡ None

-- the file that is read first is not there
abbrev pub LacksFirst : List File → Asked → Type 0
LacksFirst files (to_play game) = Lacks files game
LacksFirst files (to_store game turn out) = Lacks files game
LacksFirst files (to_resume game stored) = Lacks files game
LacksFirst files (to_rejoin game turn) = Lacks files game
LacksFirst files (to_session game steps) = Lacks files game
LacksFirst files (to_show game stored) = Lacks files game
LacksFirst files (to_compare game left right) = Lacks files game
LacksFirst files (to_serve schedule) = Lacks files schedule
LacksFirst files (to_try seed units turns) = ⊥
LacksFirst files (to_stock game economy) = Lacks files game
LacksFirst files (to_realm game turn) = Lacks files game
LacksFirst files (to_sight game turn out) = Lacks files game
LacksFirst files (to_resight game stored map) = Lacks files game
LacksFirst files (to_log game out) = Lacks files game
LacksFirst files (to_record game steps out) = Lacks files game
LacksFirst files (to_check game log) = Lacks files game
LacksFirst files (to_film game every) = Lacks files game
LacksFirst files (to_parts game) = Lacks files game

-- the first file that the words name is not there
abbrev pub LacksMatch : List File → Option Asked → Type 0
LacksMatch files None = ⊥
LacksMatch files (Some asked) = LacksFirst files asked

-- a command came to its end
abbrev pub HasEnded : Status → Type 0
HasEnded Done = Unit {0}
HasEnded Differs = Unit {0}
HasEnded other = ⊥

-- a file was not there, or a read fault came before
abbrev pub IsUnfound : Status → Type 0
IsUnfound NoFile = Unit {0}
IsUnfound ReadFault = Unit {0}
IsUnfound other = ⊥

-- What an answer of the program says: that it is an outcome of the words, or else which fault came between.

-- what the shelf holds and the sink was told, where they tell it, and what both have counted
pub record Scene : Type 0 where
  pub held : Option (List File)
  pub told : Option (List ℕ)
  pub counts : Counts
  pub faults : ℕ

-- a scene of these
abbrev pub scene : Option (List File) → Option (List ℕ) → Counts → ℕ → Scene
scene held told counts faults = record { held = held; told = told; counts = counts; faults = faults }

-- ---- what was counted

-- bytes may have been given out, and nothing else was counted
abbrev pub OnlyGave : Counts → Counts → Type 0
OnlyGave old new = (old.given ≤ new.given) × (new ≡ record old { given = new.given })

-- bytes may have been given out, then there was one read fault, and nothing else was counted
abbrev pub GaveThenFailed : Counts → Counts → Type 0
GaveThenFailed old new = (old.given ≤ new.given) × (new ≡ after_read_fault (record old { given = new.given }))

-- bytes may have been given out, then a name was not found, and nothing else was counted
abbrev pub GaveThenMissed : Counts → Counts → Type 0
GaveThenMissed old new = (old.given ≤ new.given) × (new ≡ after_miss (record old { given = new.given }))

-- bytes may have been given out, then writing the file failed, and nothing else was counted
abbrev pub GaveThenUnsaved : Counts → Counts → Type 0
GaveThenUnsaved old new = (old.given ≤ new.given) × Rose old.write_faults new.write_faults
    × (new ≡ record old { given = new.given; write_faults = new.write_faults })

-- what the shelf counted before anything was written, by the status
abbrev pub CountsBefore : Status → Counts → Counts → Type 0
CountsBefore ReadFault old new = GaveThenFailed old new
CountsBefore NoFile old new = GaveThenMissed old new
CountsBefore TooLong old new = OnlyGave old new × RoseBy (file_limit + 1) old.given new.given
CountsBefore Usage old new = new ≡ old
CountsBefore status old new = OnlyGave old new

-- the file could not be written, which the shelf counted and the sink did not; nothing was told
pub record FailsToSave (before now : Scene) : Type 0 where
  pub shelf : GaveThenUnsaved before.counts now.counts
  pub sink : now.faults ≡ before.faults
  pub text : Appends before.told now.told []

-- the text could not be told, which the sink counted and the shelf did not
pub record FailsToTell (before now : Scene) : Type 0 where
  pub shelf : OnlyGave before.counts now.counts
  pub sink : now.faults ≡ raised 1 before.faults

-- a write fault is answered exactly where one was counted, by the shelf or by the sink
abbrev pub Causes : Status → Scene → Scene → Type 0
Causes WriteFault before now = FailsToSave before now ⊎ FailsToTell before now
Causes status before now = CountsBefore status before.counts now.counts × (now.faults ≡ before.faults)

-- ---- which statuses there may be

-- a command that ends so
abbrev pub MayAnswer : Asked → Status → Type 0
MayAnswer asked Usage = ⊥
MayAnswer asked ReadFault = IsTrue (reads_file asked)
MayAnswer asked TooLong = IsTrue (reads_file asked)
MayAnswer asked NoFile = IsTrue (reads_file asked)
MayAnswer asked Differs = IsTrue (is_comparison asked)
MayAnswer asked MatchRefused = IsTrue (has_match asked)
MayAnswer asked NoSuchTurn = IsTrue (has_turn asked)
MayAnswer asked StateRefused = IsTrue (loads_state asked)
MayAnswer asked ListRefused = IsTrue (reads_list asked)
MayAnswer asked SightRefused = IsTrue (reads_map asked)
MayAnswer asked LogRefused = IsTrue (reads_log asked)
MayAnswer asked EconomyRefused = IsTrue (reads_economy asked)
MayAnswer asked other = Unit {0}

-- words that are answered so
abbrev pub MayEnd : Option Asked → Status → Type 0
MayEnd (Some asked) status = MayAnswer asked status
MayEnd None Usage = Unit {0}
MayEnd None WriteFault = Unit {0}
MayEnd None OutOfMemory = Unit {0}
MayEnd None other = ⊥

-- the whole text was told, or a part of it after a fault, or nothing without memory
abbrev pub IsUsageTold : List ℕ → Status → Option (List ℕ) → Option (List ℕ) → Type 0
IsUsageTold text Usage told told' = Appends told told' text
IsUsageTold text WriteFault told told' = (part : ℕ) × (part < length text) × Appends told told' (take part text)
IsUsageTold text OutOfMemory told told' = Appends told told' []
IsUsageTold text other told told' = ⊥

-- ---- what was done, where the shelf tells what it holds

-- nothing was told, and all files are as they were
pub record IsUntouched (before now : Scene) : Type 0 where
  pub text : Appends before.told now.told []
  pub files : now.held ≡ before.held

-- the file of an outcome is held whole, and all others as they were
abbrev pub Saves : Option File → Option (List File) → Option (List File) → Type 0
Saves None old new = new ≡ old
Saves (Some file) old new = HeldSet file.name file.bytes old new

-- the file of an outcome is as it was, or holds a prefix of its bytes, and all others are as they were
abbrev pub SavesPart : Option File → Option (List File) → Option (List File) → Type 0
SavesPart None old new = ⊥
SavesPart (Some file) old new = (new ≡ old) ⊎ ((part : ℕ) × HeldSet file.name (take part file.bytes) old new)

-- all of an outcome was done
pub record IsDone (wanted : Outcome) (before now : Scene) : Type 0 where
  pub text : Appends before.told now.told wanted.text
  pub files : Saves wanted.saved before.held now.held

-- the file could not be written
pub record IsUnsaved (wanted : Outcome) (before now : Scene) : Type 0 where
  pub fails : FailsToSave before now
  pub files : SavesPart wanted.saved before.held now.held

-- the text could not be told to its end, and the file, if there is one, is saved
pub record IsUntold (wanted : Outcome) (before now : Scene) : Type 0 where
  pub fails : FailsToTell before now
  pub part : ℕ
  pub less : part < length wanted.text
  pub text : Appends before.told now.told (take part wanted.text)
  pub files : Saves wanted.saved before.held now.held

-- the status is that of an outcome of the words, all of which was done; or a fault or want of memory came between
abbrev pub Meets : Status → List (List ℕ) → List File → Scene → Scene → Type 0
Meets ReadFault words files before now = IsUntouched before now
Meets OutOfMemory words files before now = IsUntouched before now
Meets WriteFault words files before now = (wanted : Outcome) × IsOutcome words files wanted × (IsUnsaved wanted before now ⊎ IsUntold wanted before now)
Meets status words files before now = (wanted : Outcome) × IsOutcome words files wanted × (wanted.status ≡ status) × IsDone wanted before now

-- ---- where the shelf need not tell what it holds

-- every file but the one that is to be written is as it was
abbrev pub KeepsOthers : List ℕ → Option (List File) → Option (List File) → Type 0
KeepsOthers out None new = new ≡ None
KeepsOthers out (Some files) None = ⊥
KeepsOthers out (Some files) (Some files') = (other : List ℕ) → other ≢ out → file_in files' other ≡ file_in files other

-- every file but OUT, if there is an OUT, is as it was
abbrev pub KeepsAllBut : Option (List ℕ) → Option (List File) → Option (List File) → Type 0
KeepsAllBut None old new = new ≡ old
KeepsAllBut (Some out) old new = KeepsOthers out old new

-- nothing is told with these statuses
abbrev pub IsSilent : Status → Type 0
IsSilent ReadFault = Unit {0}
IsSilent TooLong = Unit {0}
IsSilent OutOfMemory = Unit {0}
IsSilent NoFile = Unit {0}
IsSilent other = ⊥

-- what the process ends with
abbrev pub status_number : Status → ℕ
status_number Done = 0
status_number Differs = 1
status_number Usage = 2
status_number ReadFault = 3
status_number WriteFault = 4
status_number TooLong = 5
status_number MatchRefused = 6
status_number StateRefused = 7
status_number ListRefused = 8
status_number OutOfMemory = 9
status_number NoSuchTurn = 10
status_number NoFile = 11
status_number SightRefused = 12
status_number LogRefused = 13
status_number EconomyRefused = 14

-- When a run comes to its end: each file that is read is there and good, and no fault comes between.

-- a file is held and within its limit, and its bytes stand for a state of the match
pub record HoldsState (files : List File) (setup : Setup) (name : List ℕ) : Type 0 where
  pub bytes : List ℕ
  pub state : State
  pub read : bytes_in files name ≡ Ok bytes
  pub stands : StandsFor setup bytes state

-- a file is held and within its limit, and is that of a match of which more holds
pub record HoldsMatch (files : List File) (name : List ℕ) (And : Setup → Type 0) : Type 0 where
  pub setup : Setup
  pub read : match_in files name ≡ Ok setup
  pub more : And setup

-- a file is held and within its limit, and is a schedule
pub record HoldsSchedule (files : List File) (name : List ℕ) : Type 0 where
  pub schedule : Schedule
  pub read : schedule_in files name ≡ Ok schedule

-- two files are held and within their limit: a match for a session, and a list of steps for its players
pub record HoldsSession (files : List File) (game steps : List ℕ) : Type 0 where
  pub setup : Setup
  pub list : StepList
  pub read : session_match_in files game ≡ Ok setup
  pub listed : steps_in files steps setup.players ≡ Ok list

-- a file is held and within its limit, and is an economy of the match
pub record HoldsEconomy (files : List File) (setup : Setup) (name : List ℕ) : Type 0 where
  pub economy : Economy
  pub read : economy_in files name setup ≡ Ok economy

-- so are two files, a stored state and explored cells that are taken over at it
pub record HoldsSight (files : List File) (setup : Setup) (name map : List ℕ) : Type 0 where
  pub state : HoldsState files setup name
  pub explored : List ℕ
  pub taken : (found : State) → StandsFor setup state.bytes found → map_at setup found (bytes_in files map) ≡ Ok explored

-- a file is held and within its limit, and is a log of the match
pub record HoldsLog (files : List File) (setup : Setup) (name : List ℕ) : Type 0 where
  pub bytes : List ℕ
  pub log : Log
  pub read : bytes_in files name ≡ Ok bytes
  pub is_log : IsLog setup log
  pub text : bytes ≡ text_of_log setup log

-- the text of a trial is that of a match
pub record HoldsTrial (seed units turns : ℕ) : Type 0 where
  pub setup : Setup
  pub read : trial_match seed units turns ≡ Ok setup

-- each file that is to be read is good, and the match has the turn that is asked for
abbrev pub IsReady : List File → Option Asked → Type 0
IsReady files None = ⊥
IsReady files (Some (to_play game)) = HoldsMatch files game (λ setup. Unit {0})
IsReady files (Some (to_store game turn out)) = HoldsMatch files game (λ setup. turn ≤ setup.turns)
IsReady files (Some (to_resume game name)) = HoldsMatch files game (λ setup. HoldsState files setup name)
IsReady files (Some (to_rejoin game turn)) = HoldsMatch files game (λ setup. turn ≤ setup.turns)
IsReady files (Some (to_session game steps)) = HoldsSession files game steps
IsReady files (Some (to_show game name)) = HoldsMatch files game (λ setup. HoldsState files setup name)
IsReady files (Some (to_compare game left right)) = HoldsMatch files game (λ setup. HoldsState files setup left × HoldsState files setup right)
IsReady files (Some (to_serve name)) = HoldsSchedule files name
IsReady files (Some (to_try seed units turns)) = HoldsTrial seed units turns
IsReady files (Some (to_stock game name)) = HoldsMatch files game (λ setup. HoldsEconomy files setup name)
IsReady files (Some (to_realm game turn)) = HoldsMatch files game (λ setup. turn ≤ setup.turns)
IsReady files (Some (to_sight game turn out)) = HoldsMatch files game (λ setup. turn ≤ setup.turns)
IsReady files (Some (to_resight game name map)) = HoldsMatch files game (λ setup. HoldsSight files setup name map)
IsReady files (Some (to_log game out)) = HoldsMatch files game (λ setup. Unit {0})
IsReady files (Some (to_record game steps out)) = HoldsSession files game steps
IsReady files (Some (to_check game name)) = HoldsMatch files game (λ setup. HoldsLog files setup name)
IsReady files (Some (to_film game every)) = HoldsMatch files game (λ setup. Unit {0})
IsReady files (Some (to_parts game)) = HoldsMatch files game (λ setup. Unit {0})

-- no count of faults rose, nor stands at its last value
pub record IsFaultless (before now : Scene) : Type 0 where
  pub reading : now.counts.read_faults < raised 1 before.counts.read_faults
  pub saving : now.counts.write_faults < raised 1 before.counts.write_faults
  pub telling : now.faults < raised 1 before.faults

-- a command came to its end, or there was no memory
abbrev pub IsFinal : Status → Type 0
IsFinal Done = Unit {0}
IsFinal Differs = Unit {0}
IsFinal OutOfMemory = Unit {0}
IsFinal other = ⊥

-- How many bytes were given to a run, by its status: those of the files that it read, up to and with the one that is refused.

-- just so many bytes were given, and nothing else was counted
abbrev pub Gave : ℕ → Counts → Counts → Type 0
Gave n old new = new ≡ after_giving n old

-- where a stored state is refused: of two that are compared the second is read only where the first is a state, and explored cells are
-- read only where there is a state
abbrev pub GaveToState : List File → Asked → Counts → Counts → Type 0
GaveToState files (to_compare game left right) old new =
    IfOk (match_in files game) (λ setup. (HoldsState files setup left → Gave (length_read files (to_compare game left right)) old new)
    × ((HoldsState files setup left → ⊥) → Gave (length_in files game + length_in files left) old new))
GaveToState files (to_resight game stored map) old new = Gave (length_in files game + length_in files stored) old new
GaveToState files asked old new = Gave (length_read files asked) old new

-- what was given for what is asked, where nothing but the files themselves brought the run to its end
abbrev pub GaveFor : List File → Asked → Status → Counts → Counts → Type 0
GaveFor files asked Done old new = Gave (length_read files asked) old new
GaveFor files asked Differs old new = Gave (length_read files asked) old new
GaveFor files asked MatchRefused old new = Gave (length_first files asked) old new
GaveFor files asked StateRefused old new = GaveToState files asked old new
GaveFor files asked ListRefused old new = Gave (length_read files asked) old new
GaveFor files asked NoSuchTurn old new = Gave (length_read files asked) old new
GaveFor files asked SightRefused old new = Gave (length_read files asked) old new
GaveFor files asked LogRefused old new = Gave (length_read files asked) old new
GaveFor files asked EconomyRefused old new = Gave (length_read files asked) old new
GaveFor files asked other old new = Unit {0}

-- the same for the words; those of no command read nothing
abbrev pub GaveForWords : List File → Option Asked → Status → Counts → Counts → Type 0
GaveForWords files None status old new = new ≡ old
GaveForWords files (Some asked) status old new = GaveFor files asked status old new
