-- Why a command ends before it has its text, and what a call that may end so answers.
use Rattle.sim_codec.specs.declared.fault.StateFault.TheVariants as stored
use Rattle.sim_lists.specs.declared.fault.ListFault.TheVariants as listed
use Rattle.sim_replay.specs.declared.fault.LogFault.TheVariants as logged
use Rattle.sim_setup.specs.declared.fault.SetupFault.TheVariants as setup
use Rattle.sim_stock.specs.declared.fault.EconomyFault.TheVariants as economy
use Rattle.sim_top.specs.declared.status.Status.TheVariants as status
use Rattle.sim_vision.specs.declared.fault.SightFault.TheVariants as sights
use Rattle.sim_report.specs.declared.refusal.Refusal.TheVariants.{Economy as OfEconomy, List as OfList, Log as OfLog}
use Rattle.{sim_lists.specs.declared.fault.ListFault.ListFault, sim_replay.specs.declared.fault.LogFault.LogFault}
use Rattle.{sim_setup.specs.declared.fault.SetupFault.SetupFault, sim_stock.specs.declared.fault.EconomyFault.EconomyFault}
use Rattle.{sim_store.specs.Reading.{GaveAtMost, GaveThenFailed, GaveTooMany}, sim_system.specs.Meanings.Systems}
use Rattle.sim_top.specs.Common.{after, after_giving, after_miss, AreBuiltOnceAtMost, AreCleared, AreFed, Counts, end_from, File, file_limit, first_state}
use Rattle.sim_top.specs.Common.{Ghosts, Global, HaveKinds, joined_at, Log, Match, Meaning, own_turns, paid_state, refusal_text, Rig, Setup, Sight, SightFault}
use Rattle.sim_top.specs.{Common.{StandsFor, State, state_after, StateFault, stored_text, systems_by, Turn, Vision}, declared.commands.Answer.Answer}
use Rattle.sim_top.specs.declared.{status.Status.Status, stop.Stop.{Stop, TheVariants.{EconomyRefused, ListRefused, LogRefused, MatchRefused, NoFile}}}
use Rattle.sim_top.specs.{declared.stop.Stop.TheVariants.{NoSuchTurn, OutOfMemory, ReadFault, SightRefused, StateRefused, TooLong}, Outcome.bytes_in}
use Rattle.sim_top.specs.Outcome.{code_of, economy_in, IsLogged, IsStored, log_by, match_in, Outcome, printed, sight_code, state_by, Then, trial_match}
use Rattle.sim_top.specs.{Reads.{CountsBefore, IsUnfound, OnlyGave}, Words.{Asked, to_check, to_compare, to_film, to_log, to_parts, to_play, to_realm}}
use Rattle.sim_top.specs.Words.{to_record, to_rejoin, to_resight, to_resume, to_serve, to_session, to_show, to_sight, to_stock, to_store, to_try}
use Rattle.std.specs.Prelude.{All, Err, IfOk, length, List, None, Ok, OnOk, Option, Result, Some, Vec, ℕ, [], ◌∷◌, ◌≡◌}

-- the status with which a command ends there
abbrev pub status_of : Stop → Status
status_of ReadFault = status.ReadFault
status_of TooLong = status.TooLong
status_of NoFile = status.NoFile
status_of OutOfMemory = status.OutOfMemory
status_of (MatchRefused code index) = status.MatchRefused
status_of (StateRefused code name) = status.StateRefused
status_of (ListRefused index) = status.ListRefused
status_of (NoSuchTurn asked turns) = status.NoSuchTurn
status_of (SightRefused code) = status.SightRefused
status_of (LogRefused line) = status.LogRefused
status_of (EconomyRefused index) = status.EconomyRefused

-- the text that it prints
abbrev pub stop_text : Stop → List ℕ
stop_text ReadFault = []
stop_text TooLong = []
stop_text NoFile = []
stop_text OutOfMemory = []
stop_text (MatchRefused code index) = refusal_text (Match code index)
stop_text (StateRefused code name) = stored_text code name.now
stop_text (ListRefused index) = refusal_text (OfList index)
stop_text (NoSuchTurn asked turns) = refusal_text (Turn asked turns)
stop_text (SightRefused code) = refusal_text (Sight code)
stop_text (LogRefused line) = refusal_text (OfLog line)
stop_text (EconomyRefused index) = refusal_text (OfEconomy index)

-- the outcome with which a command ends there
abbrev pub ended_by : Stop → Outcome
ended_by stop = printed (status_of stop) (stop_text stop)

-- the outcome is a wanted one, or a read fault or want of memory came between
abbrev pub Stopped : Stop → (Outcome → Type 0) → Type 0
Stopped ReadFault wanted = Unit {0}
Stopped OutOfMemory wanted = Unit {0}
Stopped stop wanted = wanted (ended_by stop)

-- what is read on the way is the wanted thing, or the command ends
abbrev pub Reads : {X : Type 0} → Result X Stop → Result X Outcome → Type 0
Reads (Ok x) wanted = wanted ≡ Ok x
Reads (Err stop) wanted = Stopped stop (λ ended. wanted ≡ Err ended)

-- the same of the bytes of a file
abbrev pub ReadsBytes : Result (Vec ℕ Global) Stop → Result (List ℕ) Outcome → Type 0
ReadsBytes (Ok bytes) wanted = wanted ≡ Ok bytes.items
ReadsBytes (Err stop) wanted = Stopped stop (λ ended. wanted ≡ Err ended)

-- the bytes stand for no state, and the command ends for the first cause
pub record IsRefused (setup : Setup) (name bytes : List ℕ) (wanted : Outcome) : Type 0 where
  pub fault : StateFault
  pub stored : IsStored setup bytes (Err fault)
  pub ended : state_by name (Err fault) ≡ Err wanted

-- the bytes of a file stand for this state
pub record IsState (setup : Setup) (file : Result (List ℕ) Outcome) (state : State) : Type 0 where
  pub bytes : List ℕ
  pub read : file ≡ Ok bytes
  pub stored : StandsFor setup bytes state

-- the state that bytes stand for, or the command ends
abbrev pub LoadsState : Result State Stop → Setup → List ℕ → List ℕ → Type 0
LoadsState (Ok state) setup name bytes = StandsFor setup bytes state
LoadsState (Err stop) setup name bytes = Stopped stop (IsRefused setup name bytes)

-- the state that the bytes of a file stand for, or the command ends
abbrev pub ReadsState : Result State Stop → Setup → List ℕ → Result (List ℕ) Outcome → Type 0
ReadsState (Ok state) setup name file = IsState setup file state
ReadsState (Err stop) setup name file = Stopped stop (Then file (IsRefused setup name))

-- the bytes of a file are this log
pub record IsLogOf (setup : Setup) (file : Result (List ℕ) Outcome) (log : Log) : Type 0 where
  pub bytes : List ℕ
  pub read : file ≡ Ok bytes
  pub logged : IsLogged setup bytes (Ok log)

-- the bytes are no log, and the command ends at the first line with which none goes on
pub record IsNoLog (setup : Setup) (bytes : List ℕ) (wanted : Outcome) : Type 0 where
  pub line : ℕ
  pub refused : IsLogged setup bytes (Err line)
  pub ended : log_by (Err line) ≡ Err wanted

-- the log that the bytes of a file are, or the command ends
abbrev pub ReadsLog : Result Log Stop → Setup → Result (List ℕ) Outcome → Type 0
ReadsLog (Ok log) setup file = IsLogOf setup file log
ReadsLog (Err stop) setup file = Stopped stop (Then file (IsNoLog setup))

-- why a command ends whose match is refused
abbrev pub setup_stop : SetupFault → Stop
setup_stop (setup.Refused code index) = MatchRefused code index
setup_stop setup.OutOfMemory = OutOfMemory

-- why a command ends whose list is refused
abbrev pub list_stop : ListFault → Stop
list_stop (listed.Refused index) = ListRefused index
list_stop listed.OutOfMemory = OutOfMemory

-- a command ends for this cause, for which the state in the file of this name is refused
abbrev pub IsStateStop : StateFault → List ℕ → Stop → Type 0
IsStateStop stored.OutOfMemory name stop = stop ≡ OutOfMemory
IsStateStop fault name stop = ended_by stop ≡ printed status.StateRefused (stored_text (code_of fault) name)

-- why a command ends whose explored cells are refused
abbrev pub map_stop : SightFault → Stop
map_stop sights.OutOfMemory = OutOfMemory
map_stop fault = SightRefused (sight_code fault)

-- why a command ends whose log is refused
abbrev pub log_stop : LogFault → Stop
log_stop (logged.Refused line) = LogRefused line
log_stop logged.OutOfMemory = OutOfMemory

-- why a command ends whose economy is refused
abbrev pub economy_stop : EconomyFault → Stop
economy_stop (economy.Refused index) = EconomyRefused index
economy_stop economy.OutOfMemory = OutOfMemory

-- these explored cells were taken over at a state
pub record IsJoined (setup : Setup) (state : State) (taken : Result (List ℕ) Outcome) (sight : Vision) : Type 0 where
  pub bytes : List ℕ
  pub read : taken ≡ Ok bytes
  pub joined : sight ≡ joined_at setup state bytes

-- the explored cells that are taken over at a state, or the command ends
abbrev pub Joins : Result Vision Stop → Setup → State → Result (List ℕ) Outcome → Type 0
Joins (Ok sight) setup state taken = IsJoined setup state taken sight
Joins (Err stop) setup state taken = Stopped stop (λ ended. taken ≡ Err ended)

-- what the shelf counted while the bytes of a file were read, by the answer
abbrev pub ReadsCounting : Result (Vec ℕ Global) Stop → Counts → Counts → Type 0
ReadsCounting (Ok bytes) old new = new ≡ after_giving (length bytes.items) old
ReadsCounting (Err NoFile) old new = new ≡ after_miss old
ReadsCounting (Err TooLong) old new = GaveTooMany old new
ReadsCounting (Err ReadFault) old new = GaveThenFailed file_limit old new
ReadsCounting (Err OutOfMemory) old new = GaveAtMost file_limit old new
ReadsCounting (Err other) old new = ⊥

-- a command ends for what a file says, or for want of memory, and not for a fault of the shelf
abbrev pub IsOfContent : Stop → Type 0
IsOfContent ReadFault = ⊥
IsOfContent TooLong = ⊥
IsOfContent NoFile = ⊥
IsOfContent other = Unit {0}

-- what a command ends for that reads a match: nothing is refused but the match
abbrev pub IsOfMatch : Stop → Type 0
IsOfMatch (StateRefused code name) = ⊥
IsOfMatch (ListRefused index) = ⊥
IsOfMatch (NoSuchTurn asked turns) = ⊥
IsOfMatch (SightRefused code) = ⊥
IsOfMatch (EconomyRefused index) = ⊥
IsOfMatch (LogRefused line) = ⊥
IsOfMatch other = Unit {0}

-- that reads a stored state
abbrev pub IsOfState : Stop → Type 0
IsOfState (MatchRefused code index) = ⊥
IsOfState (ListRefused index) = ⊥
IsOfState (NoSuchTurn asked turns) = ⊥
IsOfState (SightRefused code) = ⊥
IsOfState (EconomyRefused index) = ⊥
IsOfState (LogRefused line) = ⊥
IsOfState other = Unit {0}

-- that reads a list
abbrev pub IsOfList : Stop → Type 0
IsOfList (MatchRefused code index) = ⊥
IsOfList (StateRefused code name) = ⊥
IsOfList (NoSuchTurn asked turns) = ⊥
IsOfList (SightRefused code) = ⊥
IsOfList (EconomyRefused index) = ⊥
IsOfList (LogRefused line) = ⊥
IsOfList other = Unit {0}

-- that reads explored cells
abbrev pub IsOfMap : Stop → Type 0
IsOfMap (MatchRefused code index) = ⊥
IsOfMap (StateRefused code name) = ⊥
IsOfMap (ListRefused index) = ⊥
IsOfMap (NoSuchTurn asked turns) = ⊥
IsOfMap (EconomyRefused index) = ⊥
IsOfMap (LogRefused line) = ⊥
IsOfMap other = Unit {0}

-- that reads a log
abbrev pub IsOfLog : Stop → Type 0
IsOfLog (MatchRefused code index) = ⊥
IsOfLog (StateRefused code name) = ⊥
IsOfLog (ListRefused index) = ⊥
IsOfLog (NoSuchTurn asked turns) = ⊥
IsOfLog (SightRefused code) = ⊥
IsOfLog (EconomyRefused index) = ⊥
IsOfLog other = Unit {0}

-- that reads an economy
abbrev pub IsOfEconomy : Stop → Type 0
IsOfEconomy (MatchRefused code index) = ⊥
IsOfEconomy (StateRefused code name) = ⊥
IsOfEconomy (ListRefused index) = ⊥
IsOfEconomy (NoSuchTurn asked turns) = ⊥
IsOfEconomy (SightRefused code) = ⊥
IsOfEconomy (LogRefused line) = ⊥
IsOfEconomy other = Unit {0}

-- a command ends since something is refused
abbrev pub IsRefusal : Stop → Type 0
IsRefusal ReadFault = ⊥
IsRefusal TooLong = ⊥
IsRefusal NoFile = ⊥
IsRefusal OutOfMemory = ⊥
IsRefusal other = Unit {0}

-- just so many bytes were given, by what is read or refused
abbrev pub GaveAll : {X : Type 0} → Result X Stop → ℕ → Counts → Counts → Type 0
GaveAll (Ok x) n old new = new ≡ after_giving n old
GaveAll (Err stop) n old new = IsRefusal stop → new ≡ after_giving n old

-- a command ends since a file was not there, or for a read fault
abbrev pub IsMissed : {X : Type 0} → Result X Stop → Type 0
IsMissed (Ok x) = ⊥
IsMissed (Err stop) = IsUnfound (status_of stop)

-- what the shelf counted while something was read
abbrev pub CausesOf : {X : Type 0} → Result X Stop → Counts → Counts → Type 0
CausesOf (Ok x) old new = OnlyGave old new
CausesOf (Err stop) old new = CountsBefore (status_of stop) old new

-- How many rigs a command uses, and what their systems stand for when it came to its end.

-- how many rigs are handed to the clients that play for what is asked, each with one of its own; to a session, all
abbrev pub clients : Asked → ℕ
clients (to_play game) = 1
clients (to_store game turn out) = 1
clients (to_resume game name) = 1
clients (to_rejoin game turn) = 2
clients (to_session game steps) = 8
clients (to_show game name) = 0
clients (to_compare game left right) = 0
clients (to_serve schedule) = 0
clients (to_try seed units turns) = 1
clients (to_stock game economy) = 1
clients (to_realm game turn) = 1
clients (to_sight game turn out) = 1
clients (to_resight game name map) = 1
clients (to_log game out) = 1
clients (to_record game steps out) = 8
clients (to_check game log) = 1
clients (to_film game every) = 1
clients (to_parts game) = 0

-- how many of the rigs are used for the words, from the first on
abbrev pub used : Option Asked → ℕ
used None = 0
used (Some asked) = clients asked

-- the state of a file is loaded, and the systems stand for the last turn from it on
pub record StandForStored (setup : Setup) (file : Result (List ℕ) Outcome) (t : Systems) : Type 0 where
  pub state : State
  pub stored : IsState setup file state
  pub fed : AreFed setup (end_from setup state) t

-- the systems stand for the last turn of a trial
abbrev pub StandForTrial : ℕ → ℕ → ℕ → Systems → Type 0
StandForTrial seed units turns t = IfOk (trial_match seed units turns) (λ setup. AreFed setup (after setup (own_turns setup 0 setup.turns)) t)

-- the systems stand for the last turn of a match
abbrev pub StandForLast : List File → List ℕ → Systems → Type 0
StandForLast files game t = IfOk (match_in files game) (λ setup. AreFed setup (after setup (own_turns setup 0 setup.turns)) t)

-- the systems stand for the last paid turn of a match with an economy
abbrev pub StandForPaid : List File → List ℕ → Setup → Systems → Type 0
StandForPaid files name setup t = IfOk (economy_in files name setup) (λ economy. AreFed setup (paid_state setup economy setup.turns) t)

-- a file is read as a log, and the systems stand for the state after its turns
pub record StandForLog (setup : Setup) (file : Result (List ℕ) Outcome) (t : Systems) : Type 0 where
  pub log : Log
  pub read : IsLogOf setup file log
  pub fed : AreFed setup (state_after setup log.turns) t

-- the systems of the first rig before and after: they stand for the last state that was played, or nothing was played. What those of a
-- session stand for is said of all of them at once.
abbrev pub RigStands : List File → Option Asked → Systems → Systems → Type 0
RigStands files None s t = t ≡ s
RigStands files (Some (to_play game)) s t = IfOk (match_in files game) (λ setup. AreFed setup (end_from setup (first_state setup)) t)
RigStands files (Some (to_store game turn out)) s t = IfOk (match_in files game) (λ setup. AreFed setup (after setup (own_turns setup 0 turn)) t)
RigStands files (Some (to_resume game name)) s t = IfOk (match_in files game) (λ setup. StandForStored setup (bytes_in files name) t)
RigStands files (Some (to_rejoin game turn)) s t = StandForLast files game t
RigStands files (Some (to_session game steps)) s t = Unit {0}
RigStands files (Some (to_show game name)) s t = t ≡ s
RigStands files (Some (to_compare game left right)) s t = t ≡ s
RigStands files (Some (to_serve schedule)) s t = t ≡ s
RigStands files (Some (to_try seed units turns)) s t = StandForTrial seed units turns t
RigStands files (Some (to_stock game name)) s t = IfOk (match_in files game) (λ setup. StandForPaid files name setup t)
RigStands files (Some (to_realm game turn)) s t = IfOk (match_in files game) (λ setup. AreFed setup (after setup (own_turns setup 0 turn)) t)
RigStands files (Some (to_sight game turn out)) s t = IfOk (match_in files game) (λ setup. AreFed setup (after setup (own_turns setup 0 turn)) t)
RigStands files (Some (to_resight game name map)) s t = IfOk (match_in files game) (λ setup. StandForStored setup (bytes_in files name) t)
RigStands files (Some (to_log game out)) s t = StandForLast files game t
RigStands files (Some (to_record game steps out)) s t = Unit {0}
RigStands files (Some (to_check game name)) s t = IfOk (match_in files game) (λ setup. StandForLog setup (bytes_in files name) t)
RigStands files (Some (to_film game every)) s t = StandForLast files game t
RigStands files (Some (to_parts game)) s t = t ≡ s

-- the systems of the second rig: a client that joins plays to the last state too
abbrev pub SecondStands : List File → Option Asked → Systems → Type 0
SecondStands files (Some (to_rejoin game turn)) t = StandForLast files game t
SecondStands files other t = Unit {0}

-- of the first rigs of two lists
abbrev pub OfFirsts : {X : Type 0} {F : X → Type 0} → List (Rig X F) → List (Rig X F) → (Rig X F → Rig X F → Type 0) → Type 0
OfFirsts [] new P = ⊥
OfFirsts (r ∷ old) [] P = ⊥
OfFirsts (r ∷ old) (s ∷ new) P = P r s

-- a match was played with this rig to a state, if there was memory: its systems stand for the state, and each was built once at most
pub record HasPlayedBy {X : Type 0} {F : X → Type 0} (meaning : (i : X) → F i → Meaning) (setup : Setup) (state : State) (made : Result Answer Stop)
    (old new : Rig X F) : Type 0 where
  pub fed : OnOk made (AreFed setup state (systems_by new meaning))
  pub kinds : HaveKinds (systems_by new meaning)
  pub most : AreBuiltOnceAtMost (systems_by old meaning) (systems_by new meaning)

-- the same, as a clause has it
abbrev pub HasPlayed : {X : Type 0} {F : X → Type 0} → ((i : X) → Ghosts (F i)) → Setup → State → Result Answer Stop → Rig X F → Rig X F → Type 0
HasPlayed sys setup state made old new = HasPlayedBy (λ i v. (sys i).meaning v) setup state made old new

-- eight rigs, each system of which is in its place
pub record AreEightBy {X : Type 0} {F : X → Type 0} (meaning : (i : X) → F i → Meaning) (rigs : List (Rig X F)) : Type 0 where
  pub count : length rigs ≡ 8
  pub kinds : All (λ r. HaveKinds (systems_by r meaning)) rigs

-- the same, as a clause has it
abbrev pub AreEight : {X : Type 0} {F : X → Type 0} → ((i : X) → Ghosts (F i)) → List (Rig X F) → Type 0
AreEight sys rigs = AreEightBy (λ i v. (sys i).meaning v) rigs

-- eight rigs whose systems have forgotten all
pub record AreFreshBy {X : Type 0} {F : X → Type 0} (meaning : (i : X) → F i → Meaning) (rigs : List (Rig X F)) : Type 0 where
  pub eight : AreEightBy meaning rigs
  pub cleared : All (λ r. AreCleared (systems_by r meaning)) rigs

-- the same, as a clause has it
abbrev pub AreFresh : {X : Type 0} {F : X → Type 0} → ((i : X) → Ghosts (F i)) → List (Rig X F) → Type 0
AreFresh sys rigs = AreFreshBy (λ i v. (sys i).meaning v) rigs
