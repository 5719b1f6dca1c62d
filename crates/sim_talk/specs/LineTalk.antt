-- What a talk over an input and a sink answers.
use Rattle.sim_talk.specs.declared.fault.HearFault.TheVariants as fault
use Rattle.sim_talk.specs.declared.fault.TalkFault.TheVariants as ends
use Rattle.sim_store.specs.{declared.{fault.Failed.Failed, sink.Sink.Ghosts}, Shelf.raised}
use Rattle.sim_talk.specs.{declared.fault.{HearFault.HearFault, TalkFault.TalkFault}, Lines.{HearsOf, MissesOf, ReadCounts}, Talks.{Extends, History, Loses}}
use Rattle.std.specs.Io.KnownBytes.{Appends, Consumes, IsAtEnd, Keeps, prepend_known}
use Rattle.std.specs.{Prelude.{Bool, Err, false, length, List, None, Ok, Option, Result, take, true, ℕ, ⊤, [], ◌++◌, ◌<◌, ◌≡◌}, Str.IsUtf8}

-- what a talk over an input and a sink tells: the bytes of both, with those that were read and not heard yet, what is kept, and what both
-- have counted
abbrev pub piped : List ℕ → Option (List ℕ) → Option (List ℕ) → List ℕ → ℕ → ℕ → ℕ → History
piped ahead left told kept most unread unwritten = record {
  passed = None;
  coming = prepend_known ahead left;
  written = told;
  kept = kept;
  longest = most;
  unread = unread;
  unwritten = unwritten;
}

-- ---- what is heard

-- nothing passed, or what was kept could not be written
abbrev pub Readies : Result ⊤ Failed → History → History → Type 0
Readies (Ok done) old new = Extends old new []
Readies (Err failed) old new = Loses old new

-- a line that has come to its end is heard where it is text
abbrev pub IsText : Result Bool HearFault → List ℕ → Type 0
IsText (Ok true) line = IsUtf8 line
IsText (Ok false) line = ⊥
IsText (Err fault.NoText) line = IsUtf8 line → ⊥
IsText (Err other) line = ⊥

-- at the end of the input there is no line, or a part of one
abbrev pub Ends : Result Bool HearFault → List ℕ → Type 0
Ends (Ok true) line = ⊥
Ends (Ok false) line = line ≡ []
Ends (Err fault.CutOff) line = 0 < length line
Ends (Err other) line = ⊥

-- a piece of the input came, and is ahead; or reading failed
abbrev pub Comes : Result ℕ Failed → Option (List ℕ) → Option (List ℕ) → List ℕ → List ℕ → Type 0
Comes (Ok count) old new ahead ahead' = Consumes old new ahead' × (length ahead' ≡ count) × (count ≡ 0 → IsAtEnd new)
Comes (Err failed) old new ahead ahead' = Keeps old new × (ahead' ≡ ahead)

-- what was taken of the input, by the answer; nothing where what was kept could not be written
abbrev pub TakesOf : ℕ → Result Bool TalkFault → List ℕ → Option (List ℕ) → Option (List ℕ) → Type 0
TakesOf most (Ok heard) line old new = HearsOf most (Ok heard) line old new
TakesOf most (Err (ends.Unheard cause)) line old new = MissesOf most cause old new
TakesOf most (Err ends.Untold) line old new = new ≡ old
TakesOf most (Err ends.OutOfMemory) line old new = ⊥

-- and what is counted of reading, and of writing
abbrev pub HearCounts : {A : Type 0} → Result A TalkFault → ℕ → ℕ → Type 0
HearCounts (Ok done) old new = new ≡ old
HearCounts (Err (ends.Unheard cause)) old new = ReadCounts (Err cause) old new
HearCounts (Err ends.Untold) old new = new ≡ old
HearCounts (Err ends.OutOfMemory) old new = ⊥

abbrev pub WriteCounts : {A : Type 0} → Result A TalkFault → ℕ → ℕ → Type 0
WriteCounts (Ok done) old new = new ≡ old
WriteCounts (Err (ends.Unheard cause)) old new = new ≡ old
WriteCounts (Err ends.Untold) old new = new ≡ raised 1 old
WriteCounts (Err ends.OutOfMemory) old new = ⊥

-- both, where it is told by a history
pub record CountsFaults {A : Type 0} (result : Result A TalkFault) (old new : History) : Type 0 where
  pub read : HearCounts result old.unread new.unread
  pub written : WriteCounts result old.unwritten new.unwritten

-- ---- what is told, by what was kept and written before and after

-- of what was kept and of the text behind it a beginning was written and the rest is kept; or writing failed, and the rest is lost
abbrev pub TellsOut : Result ⊤ Failed → List ℕ → List ℕ → List ℕ → Option (List ℕ) → Option (List ℕ) → Type 0
TellsOut (Ok done) text kept kept' old new = (now : List ℕ) × Appends old new now × (kept ++ text ≡ now ++ kept')
TellsOut (Err failed) text kept kept' old new = (part : ℕ) × Appends old new (take part (kept ++ text)) × (kept' ≡ [])

-- all that was kept was written, or a beginning of it
abbrev pub SettlesOut : Result ⊤ Failed → List ℕ → Option (List ℕ) → Option (List ℕ) → Type 0
SettlesOut (Ok done) kept old new = Appends old new kept
SettlesOut (Err failed) kept old new = (part : ℕ) × Appends old new (take part kept)

-- a failed write is counted
abbrev pub TellCounts : Result ⊤ Failed → ℕ → ℕ → Type 0
TellCounts (Ok done) old new = new ≡ old
TellCounts (Err failed) old new = new ≡ raised 1 old

-- A text was told over a sink: what is kept and written of it, and that a failed write is counted. The record says what the sink means.
pub record TellsTo {K : Type 0} (sink : Ghosts K) (result : Result ⊤ Failed) (text kept kept' : List ℕ) (old new : K) : Type 0 where
  pub told : TellsOut result text kept kept' (sink.told old) (sink.told new)
  pub faults : TellCounts result (sink.faults old) (sink.faults new)

-- the same of what was kept and is to be written
pub record SettlesTo {K : Type 0} (sink : Ghosts K) (result : Result ⊤ Failed) (kept : List ℕ) (old new : K) : Type 0 where
  pub told : SettlesOut result kept (sink.told old) (sink.told new)
  pub faults : TellCounts result (sink.faults old) (sink.faults new)

-- ---- what a line in words may be refused for

abbrev pub LacksMemory : Result ⊤ HearFault → Type 0
LacksMemory (Ok done) = Unit {0}
LacksMemory (Err fault.OutOfMemory) = Unit {0}
LacksMemory (Err other) = ⊥
