-- What was told in a talk and how it ended, by what the words ask for and what the files hold.
use Rattle.sim_edge.specs.declared.ending.Ending.TheVariants as ending
use Rattle.sim_top.specs.declared.status.Status.TheVariants as status
use Rattle.sim_top.specs.declared.stop.Stop.TheVariants as stop
use Rattle.sim_base.specs.{declared.setup.Setup.Setup, Limits.IsFrom}
use Rattle.sim_edge.specs.{declared.{asking.Asked.Asked, ending.Ending.Ending}, Endings.ended_as, Words.{Talk, talk_of, to_live, to_relay}}
use Rattle.sim_live.specs.{declared.relaying.RelayRules.RelayRules, Live.Lives, Relays.{IsRelay, Relays}}
use Rattle.{sim_store.specs.{declared.counts.Counts.Counts, Shelf.{raised, Rose}}, sim_talk.specs.declared.fault.TalkFault.TalkFault}
use Rattle.{sim_talk.specs.Talks.{Breaks, Extends, History, IsBeginning, Passed, told}, sim_top.specs.declared.{status.Status.Status, stop.Stop.Stop}}
use Rattle.sim_top.specs.{Outcome.{Outcome, session_match_in}, Reads.{GaveThenFailed, IsSilent}, Stops.{ended_by, status_of, stop_text}}
use Rattle.std.specs.Prelude.{Err, IfSome, length, List, Ok, Option, option_map, Result, ℕ, ⊤, [], ◌<◌, ◌∷◌, ◌≡◌, ◌≤◌, ◌⊎◌}
use Rattle.{sim_report.specs.Refusals.refusal_text, sim_report.specs.declared.refusal.Refusal.TheVariants.List as OfList, sim_store.specs.Held.File}

-- the talk over a session of a match took place
abbrev pub TalkedOver : Setup → ℕ → Ending → History → History → Type 0
TalkedOver setup clients ended old new = (outcome : Result ⊤ TalkFault) × (ended ≡ ended_as outcome) × Lives outcome setup clients old new

-- that with the server did
abbrev pub TalkedAs : RelayRules → Ending → History → History → Type 0
TalkedAs rules ended old new = (outcome : Result ⊤ TalkFault) × (ended ≡ ended_as outcome) × Relays outcome rules old new

-- nothing was told, since the file could not be read, or memory was refused
pub record CameBetween (ended : Ending) (old new : History) : Type 0 where
  pub cause : (ended ≡ ending.Run status.ReadFault) ⊎ (ended ≡ ending.Run status.OutOfMemory)
  pub nothing : Extends old new []

-- a refusal was told with its status, or it was not written whole, or something came between
pub data Refused (s : Status) (text : List ℕ) (old new : History) : Ending → Type 0 where
  whole : 0 < length text → Extends old new (told text ∷ []) → Refused s text old new (ending.Run s)
  silent : text ≡ [] → Extends old new [] → Refused s text old new (ending.Run s)
  in_part : 0 < length text → (more : List Passed) → IsBeginning text more → Breaks old new more → Refused s text old new ending.Untold
  between : (ended : Ending) → CameBetween ended old new → Refused s text old new ended

-- a session can't begin with more clients than the match has players: it is refused as a list that says so
abbrev pub BeginsWith : Setup → ℕ → Ending → History → History → Type 0
BeginsWith setup clients ended old new =
    (clients ≤ setup.players → TalkedOver setup clients ended old new ⊎ CameBetween ended old new)
    × (setup.players < clients → Refused status.ListRefused (refusal_text (OfList 0)) old new ended)

-- by the match that was read, or why none was
abbrev pub LiveBy : Result Setup Outcome → ℕ → Ending → History → History → Type 0
LiveBy (Ok setup) clients ended old new = BeginsWith setup clients ended old new
LiveBy (Err wanted) clients ended old new = Refused wanted.status wanted.text old new ended

-- the match was read, or it says why the talk does not begin
abbrev pub ReadsBy : Result Setup Outcome → ℕ → Result Setup Stop → Type 0
ReadsBy (Ok setup) clients (Ok found) = (found ≡ setup) × (clients ≤ setup.players)
ReadsBy (Ok setup) clients (Err stop.ReadFault) = Unit {0}
ReadsBy (Ok setup) clients (Err stop.OutOfMemory) = Unit {0}
ReadsBy (Ok setup) clients (Err (stop.ListRefused index)) = (setup.players < clients) × (index ≡ 0)
ReadsBy (Ok setup) clients (Err other) = ⊥
ReadsBy (Err wanted) clients (Ok found) = ⊥
ReadsBy (Err wanted) clients (Err stop.ReadFault) = Unit {0}
ReadsBy (Err wanted) clients (Err stop.OutOfMemory) = Unit {0}
ReadsBy (Err wanted) clients (Err other) = wanted ≡ ended_by other

abbrev pub ReadsFor : List File → List ℕ → ℕ → Result Setup Stop → Type 0
ReadsFor files game clients found = ReadsBy (session_match_in files game) clients found

-- what was told, and how it ended, over these files
abbrev pub TalksOf : List File → Talk → Ending → History → History → Type 0
TalksOf files (to_live game clients) ended old new = LiveBy (session_match_in files game) clients ended old new
TalksOf files (to_relay rules) ended old new = TalkedAs rules ended old new

-- its numbers are within their limits
abbrev pub IsTalk : Talk → Type 0
IsTalk (to_live game clients) = IsFrom 1 8 clients
IsTalk (to_relay rules) = IsRelay rules

-- what words ask for is this talk, if it is one, and its numbers are within their limits
pub record AsksFor (wanted : Option Talk) (found : Option Asked) : Type 0 where
  pub asked : option_map talk_of found ≡ wanted
  pub limits : IfSome found (λ asked. IsTalk (talk_of asked))

-- the talk with the server took place, where one is asked for, whatever the shelf holds
abbrev pub OfRelay : Talk → Ending → History → History → Type 0
OfRelay (to_live game clients) ended old new = Unit {0}
OfRelay (to_relay rules) ended old new = TalkedAs rules ended old new

-- ---- what was counted

-- what the talk counted, by how it ended: a text is untold only where a write failed, and a line unread only where a read did
abbrev pub TalkCauses : Ending → History → History → Type 0
TalkCauses ending.Unread old new = (new.unread ≡ raised 1 old.unread) × (new.unwritten ≡ old.unwritten)
TalkCauses ending.Untold old new = Rose old.unwritten new.unwritten
TalkCauses other old new = (new.unread ≡ old.unread) × (new.unwritten ≡ old.unwritten)

-- a fault of reading the match is answered exactly where the shelf counted one
abbrev pub LiveCauses : Ending → Counts → Counts → Type 0
LiveCauses (ending.Run status.ReadFault) old new = GaveThenFailed old new
LiveCauses other old new = new.read_faults ≡ old.read_faults

-- and the server reads no file
abbrev pub ShelfCauses : Talk → Ending → Counts → Counts → Type 0
ShelfCauses (to_live game clients) ended old new = LiveCauses ended old new
ShelfCauses (to_relay rules) ended old new = new ≡ old

-- why a talk does not begin: as it says, or without memory for a text, or since the text was not told
abbrev pub IsRefusal : Stop → Ending → Type 0
IsRefusal found ended = (ended ≡ ending.Run (status_of found)) ⊎ ((ended ≡ ending.Run status.OutOfMemory) × (IsSilent (status_of found) → ⊥))
    ⊎ ((ended ≡ ending.Untold) × (0 < length (stop_text found)))
