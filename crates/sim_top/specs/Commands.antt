-- What is made of the words before anything is written, what a command answers to what is asked, and what reading a file says of the
-- shelf: the facts of each call by name.
use Rattle.sim_top.specs.Common.{Counts, File, file_in, IsSetup, IsValid, Setup, State, usage_text}
use Rattle.sim_top.specs.declared.{commands.{Answer.Answer, Saved.Saved}, status.Status.{Status, TheVariants.WriteFault}, stop.Stop.Stop}
use Rattle.sim_top.specs.Making.{file_of, IsFileAs, IsFinished, IsSavedAs, IsUsageMade, Makes, MeetsBefore, SavesIfDone, status_made}
use Rattle.sim_top.specs.{Outcome.{IsOutcomeOf, Outcome}, Reads.{CountsBefore, GaveFor, GaveForWords, IsSilent, IsUnfound, LacksFirst, LacksMatch, length_in}}
use Rattle.sim_top.specs.{Reads.{MayAnswer, MayEnd}, Stops.{CausesOf, GaveAll, IsMissed, IsOfContent, Reads}, Words.{Asked, asked_by, out_of}}
use Rattle.std.specs.{Prelude.{Err, false, IfErr, IfOk, IfSome, List, None, Option, option_map, Result, Some, ℕ, [], ◌≡◌, ◌≢◌}, Str.is_utf8}

-- what a shelf holds, where it tells it, and what it has counted
pub record Shelved : Type 0 where
  pub held : Option (List File)
  pub counts : Counts

-- a shelf of these
abbrev pub shelved : Option (List File) → Counts → Shelved
shelved held counts = record { held = held; counts = counts }

-- what reading the file of this name says of the shelf, whatever is read of the bytes
pub record IsReading {X : Type 0} (name : List ℕ) (found : Result X Stop) (before now : Shelved) : Type 0 where
  pub missing : (files : List File) → before.held ≡ Some files → file_in files name ≡ None → IsMissed found
  pub causes : CausesOf found before.counts now.counts
  pub given : (files : List File) → before.held ≡ Some files → GaveAll found (length_in files name) before.counts now.counts
  pub same : now.held ≡ before.held

-- what reading the file of this name comes to, beside what is told of its bytes: what is good of it, why a command ends that has to read it, and
-- what it says of the shelf
pub record HasRead {X : Type 0} (found : Result X Stop) (IsGood : X → Type 0) (IsOf : Stop → Type 0) (name : List ℕ) (before now : Shelved) : Type 0 where
  pub good : IfOk found IsGood
  pub stops : IfErr found IsOf
  pub reading : IsReading name found before now

-- what bytes come to, beside what is told of them: the shelf has no part in why a command ends
pub record HasParsed {X : Type 0} (found : Result X Stop) (IsGood : X → Type 0) (IsOf : Stop → Type 0) : Type 0 where
  pub good : IfOk found IsGood
  pub stops : IfErr found IsOf
  pub content : IfErr found IsOfContent

-- what a text comes to, of which this is wanted: bytes that are no text are refused so without a look at the memory
pub record HasParsedText {X : Type 0} (wanted : Result X Outcome) (bytes : List ℕ) (refused : Stop) (IsGood : X → Type 0) (IsOf : Stop → Type 0)
    (found : Result X Stop) : Type 0 where
  pub tells : Reads found wanted
  pub no_text : is_utf8 bytes ≡ false → found ≡ Err refused
  pub parsed : HasParsed found IsGood IsOf

-- a sight of a match may join at a state
pub record MayJoin (setup : Setup) (state : State) : Type 0 where
  pub limits : IsSetup setup
  pub valid : IsValid setup state

-- an outcome with which a command may end that has its text
pub record MayFinish (asked : Asked) (wanted : Outcome) : Type 0 where
  pub status : MayAnswer asked wanted.status
  pub done : IsFinished wanted.saved wanted.status
  pub file : IsFileAs (out_of (Some asked)) wanted.saved

-- what a command answers to what is asked, before anything is written
pub record IsAnswerTo (asked : Asked) (made : Result Answer Stop) (before now : Shelved) : Type 0 where
  -- an outcome of what is asked, or a read fault or want of memory
  pub answers : IfSome before.held (λ files. Makes made (IsOutcomeOf files (Some asked)))
  -- a file is to be saved only where one is asked for, and only by a command that is done
  pub saved : IfOk made (λ answer. IsSavedAs (out_of (Some asked)) answer.saved)
  pub done : IfOk made (λ answer. IsFinished answer.saved answer.status)
  -- what was counted on the way, by the status
  pub causes : CausesOf made before.counts now.counts
  pub statuses : MayAnswer asked (status_made made)
  -- the file that is read first is found missing, whatever memory there is
  pub missing : (files : List File) → before.held ≡ Some files → LacksFirst files asked → IsMissed made
  -- each file that was read was given once
  pub given : (files : List File) → before.held ≡ Some files → GaveFor files asked (status_made made) before.counts now.counts
  -- and all are as they were
  pub same : now.held ≡ before.held

-- a status, a text and perhaps a file that are made of the words and still to be written
pub record IsPrepared (words : List (List ℕ)) (status : Status) (text : List ℕ) (saved : Option Saved) (before now : Shelved) : Type 0 where
  -- an outcome of the words, or a read fault or want of memory
  pub answers : IfSome before.held (λ files. MeetsBefore status words files text (option_map file_of saved))
  pub statuses : MayEnd (asked_by words) status
  -- of words that are in no table the usage text alone, for which nothing is read
  pub unasked : asked_by words ≡ None → IsUsageMade usage_text status text × (saved ≡ None) × (now.counts ≡ before.counts)
  -- each file that was read was given once
  pub given : (files : List File) → before.held ≡ Some files → GaveForWords files (asked_by words) status before.counts now.counts
  pub missing : (files : List File) → before.held ≡ Some files → LacksMatch files (asked_by words) → IsUnfound status × (saved ≡ None)
  pub silent : IsSilent status → text ≡ []
  -- a file is to be saved only where one is asked for, and only by a command that is done
  pub done : SavesIfDone saved status
  pub saved_as : IsSavedAs (out_of (asked_by words)) saved
  pub unwritten : status ≢ WriteFault
  pub causes : CountsBefore status before.counts now.counts
  pub same : now.held ≡ before.held
