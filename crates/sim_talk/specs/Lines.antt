-- Lines: which bytes of an input are a line, and what became of one that was to be heard.
use Rattle.sim_talk.specs.declared.ahead.Poured.TheVariants as poured
use Rattle.sim_talk.specs.declared.fault.HearFault.TheVariants as fault
use Rattle.{sim_store.specs.Shelf.raised, sim_talk.specs.declared.{ahead.Poured.Poured, fault.HearFault.HearFault}, std.specs.Io.KnownBytes.{Consumes, IsAtEnd}}
use Rattle.std.specs.{Prelude.{All, Bool, Err, false, length, List, None, Ok, Option, Result, Some, true, ℕ, [], ◌++◌, ◌<◌, ◌∷◌, ◌≡◌, ◌≢◌, ◌≤◌}, Str.IsUtf8}

-- what ends a line
abbrev pub feed : List ℕ
feed = 10 ∷ []

-- some bytes go on within one line
abbrev pub IsWithinLine : List ℕ → Type 0
IsWithinLine bytes = All (λ b. b ≢ 10) bytes

-- bytes within one line, and no more of them than it may have
pub record IsPart (most : ℕ) (bytes : List ℕ) : Type 0 where
  pub within : IsWithinLine bytes
  pub few : length bytes ≤ most

-- bytes were added to a line: up to its end, or all of them, or it is longer than it may be
pub record PoursWhole (most : ℕ) (ahead line ahead' line' : List ℕ) : Type 0 where
  pub more : List ℕ
  pub taken : ahead ≡ more ++ 10 ∷ ahead'
  pub added : line' ≡ line ++ more
  pub within : IsWithinLine more
  pub few : length line' ≤ most

pub record PoursOpen (most : ℕ) (ahead line ahead' line' : List ℕ) : Type 0 where
  pub taken : ahead' ≡ []
  pub added : line' ≡ line ++ ahead
  pub within : IsWithinLine ahead
  pub few : length line' ≤ most

pub record PoursTooMuch (most : ℕ) (ahead line ahead' : List ℕ) : Type 0 where
  pub more : List ℕ
  pub taken : ahead ≡ more ++ ahead'
  pub within : IsWithinLine more
  pub many : most < length (line ++ more)

abbrev pub Pours : Poured → ℕ → List ℕ → List ℕ → List ℕ → List ℕ → Type 0
Pours poured.Whole most ahead line ahead' line' = PoursWhole most ahead line ahead' line'
Pours poured.Open most ahead line ahead' line' = PoursOpen most ahead line ahead' line'
Pours poured.TooLong most ahead line ahead' line' = PoursTooMuch most ahead line ahead'

-- ---- what is heard of an input, by what is to come of it before and after

-- a whole line of text was taken with the feed that ends it
pub record HearsLine (most : ℕ) (line : List ℕ) (old new : Option (List ℕ)) : Type 0 where
  pub taken : Consumes old new (line ++ feed)
  pub part : IsPart most line
  pub text : IsUtf8 line

-- the input has come to its end between two lines
abbrev pub HearsEnd : Option (List ℕ) → Option (List ℕ) → Type 0
HearsEnd old new = Consumes old new [] × IsAtEnd new

-- it ended within a line, of which this much came
pub record HearsCut (most : ℕ) (old new : Option (List ℕ)) : Type 0 where
  pub part : List ℕ
  pub taken : Consumes old new part
  pub some : 0 < length part
  pub within : IsPart most part
  pub end : IsAtEnd new

-- a line has more bytes than it may have
pub record HearsTooMuch (most : ℕ) (old new : Option (List ℕ)) : Type 0 where
  pub part : List ℕ
  pub taken : Consumes old new part
  pub within : IsWithinLine part
  pub many : most < length part

-- a whole line was taken that is no text
pub record HearsNoText (most : ℕ) (old new : Option (List ℕ)) : Type 0 where
  pub line : List ℕ
  pub taken : Consumes old new (line ++ feed)
  pub part : IsPart most line
  pub none : IsUtf8 line → ⊥

-- no more was taken than a part of one line
pub record HearsPart (most : ℕ) (old new : Option (List ℕ)) : Type 0 where
  pub part : List ℕ
  pub taken : Consumes old new part
  pub within : IsPart most part

-- what was taken of the input where no line was heard, by the fault
abbrev pub MissesOf : ℕ → HearFault → Option (List ℕ) → Option (List ℕ) → Type 0
MissesOf most fault.CutOff old new = HearsCut most old new
MissesOf most fault.TooLong old new = HearsTooMuch most old new
MissesOf most fault.NoText old new = HearsNoText most old new
MissesOf most fault.Failed old new = HearsPart most old new
MissesOf most fault.OutOfMemory old new = HearsPart most old new

-- the same where it is told what is to come of the input
abbrev pub IsCause : ℕ → HearFault → Option (List ℕ) → Option (List ℕ) → Type 0
IsCause most cause None new = Unit {0}
IsCause most cause (Some bytes) new = MissesOf most cause (Some bytes) new

-- what was taken of the input, by the answer
abbrev pub HearsOf : ℕ → Result Bool HearFault → List ℕ → Option (List ℕ) → Option (List ℕ) → Type 0
HearsOf most (Ok true) line old new = HearsLine most line old new
HearsOf most (Ok false) line old new = HearsEnd old new
HearsOf most (Err cause) line old new = MissesOf most cause old new

-- a failed read is counted, and nothing else is
abbrev pub ReadCounts : Result Bool HearFault → ℕ → ℕ → Type 0
ReadCounts (Ok heard) old new = new ≡ old
ReadCounts (Err fault.Failed) old new = new ≡ raised 1 old
ReadCounts (Err other) old new = new ≡ old
