-- What passes in a talk: lines that are heard and texts that are told. A talk tells of it what it knows: one in memory the whole
-- history, so that it says what had been told when a line was asked for, and one over an input and a sink their bytes. What was told may
-- be kept for a while before it is written. Each talk counts what failed, so that a fault has its cause.
use Rattle.sim_talk.specs.declared.fault.TalkFault.TheVariants as ends
use Rattle.{sim_store.specs.{declared.fault.Failed.Failed, Shelf.{raised, Rose}}, sim_talk.specs.declared.fault.{HearFault.HearFault, TalkFault.TalkFault}}
use Rattle.{sim_talk.specs.Lines.{feed, IsCause, ReadCounts}, std.specs.Io.KnownBytes.{Appends, Consumes, IsAtEnd}}
use Rattle.std.specs.Prelude.{Bool, Err, false, List, None, Ok, Option, Result, Some, take, true, ℕ, ⊤, [], ◌++◌, ◌∷◌, ◌≡◌}

-- a line that was heard, or a text that was told
pub data Passed : Type 0 where
  heard : List ℕ → Passed
  told : List ℕ → Passed

-- what a talk tells of itself
pub record History : Type 0 where
  -- all that passed, the oldest first
  pub passed : Option (List Passed)
  -- the bytes that are to come
  pub coming : Option (List ℕ)
  -- the bytes that were written
  pub written : Option (List ℕ)
  -- the bytes that were told and not written yet
  pub kept : List ℕ
  -- how many bytes a line may have
  pub longest : ℕ
  -- how often reading failed, and how often writing did: neither count falls, and both stand still at 2^64 - 1
  pub unread : ℕ
  pub unwritten : ℕ

-- one that tells nothing but what failed
abbrev pub untold : ℕ → ℕ → History
untold unread unwritten =
    record { passed = None; coming = None; written = None; kept = []; longest = 0; unread = unread; unwritten = unwritten }

-- the bytes of the lines that were heard, each with the feed that ends it
abbrev pub heard_bytes : List Passed → List ℕ
heard_bytes [] = []
heard_bytes (heard line ∷ more) = (line ++ feed) ++ heard_bytes more
heard_bytes (told text ∷ more) = heard_bytes more

-- the bytes of the texts that were told
abbrev pub told_bytes : List Passed → List ℕ
told_bytes [] = []
told_bytes (heard line ∷ more) = told_bytes more
told_bytes (told text ∷ more) = text ++ told_bytes more

-- where all that passed is told, these came behind it
abbrev pub Grows : Option (List Passed) → Option (List Passed) → List Passed → Type 0
Grows None new more = Unit {0}
Grows (Some old) None more = ⊥
Grows (Some old) (Some new) more = new ≡ old ++ more

-- these bytes were told: of what was kept and of them behind it a beginning was written, and the rest is kept
pub record Says (told : List ℕ) (old new : History) : Type 0 where
  pub now : List ℕ
  pub written : Appends old.written new.written now
  pub rest : old.kept ++ told ≡ now ++ new.kept

-- these passed, and nothing else; and nothing failed
pub record Extends (old new : History) (more : List Passed) : Type 0 where
  pub passed : Grows old.passed new.passed more
  pub taken : Consumes old.coming new.coming (heard_bytes more)
  pub written : Says (told_bytes more) old new
  pub longest : new.longest ≡ old.longest
  pub read : new.unread ≡ old.unread
  pub wrote : new.unwritten ≡ old.unwritten

-- a line was not heard for this cause, which the bytes show that were taken, and a failed read its count; and nothing passed
pub record Misses (fault : HearFault) (old new : History) : Type 0 where
  pub passed : Grows old.passed new.passed []
  pub cause : IsCause old.longest fault old.coming new.coming
  pub written : Says [] old new
  pub read : ReadCounts (Err fault) old.unread new.unread
  pub wrote : new.unwritten ≡ old.unwritten

-- ---- what was kept is written

-- these bytes were written and nothing else came to pass, and nothing is kept; so often writing has failed by then
pub record Writes (now : List ℕ) (failed : ℕ) (old new : History) : Type 0 where
  pub passed : new.passed ≡ old.passed
  pub coming : new.coming ≡ old.coming
  pub written : Appends old.written new.written now
  pub kept : new.kept ≡ []
  pub longest : new.longest ≡ old.longest
  pub read : new.unread ≡ old.unread
  pub wrote : new.unwritten ≡ failed

-- all that was kept was written, and that did not fail
abbrev pub WritesAll : History → History → Type 0
WritesAll old new = Writes old.kept old.unwritten old new

-- writing failed, once: of what was kept a beginning was written, and the rest is lost
abbrev pub Loses : History → History → Type 0
Loses old new = (part : ℕ) × Writes (take part old.kept) (raised 1 old.unwritten) old new

-- the same where it may have failed again behind that
abbrev pub HasLost : History → History → Type 0
HasLost old new = (part : ℕ) × Rose old.unwritten new.unwritten × Writes (take part old.kept) new.unwritten old new

-- all that was kept was written, or that failed
abbrev pub Settles : Result ⊤ Failed → History → History → Type 0
Settles (Ok done) old new = WritesAll old new
Settles (Err failed) old new = Loses old new

-- ---- what a call answers

-- one line was heard, or the input has come to its end, or there is a fault: of hearing, or of writing what was kept before
abbrev pub Hears : Result Bool TalkFault → List ℕ → History → History → Type 0
Hears (Ok true) line old new = Extends old new (heard line ∷ [])
Hears (Ok false) line old new = Extends old new [] × IsAtEnd new.coming
Hears (Err (ends.Unheard fault)) line old new = Misses fault old new
Hears (Err ends.Untold) line old new = Loses old new
Hears (Err ends.OutOfMemory) line old new = ⊥

-- nothing of a text, or a beginning of it
pub data IsBeginning (text : List ℕ) : List Passed → Type 0 where
  none_of : IsBeginning text []
  part_of : (part : ℕ) → IsBeginning text (told (take part text) ∷ [])

-- these passed, and of what was told with them a beginning was written
abbrev pub Breaks : History → History → List Passed → Type 0
Breaks old new more = (before : History) × Extends old before more × Loses before new

-- the whole text was told, or a beginning of it, or nothing, of which not all was written
abbrev pub Tells : Result ⊤ Failed → List ℕ → History → History → Type 0
Tells (Ok done) text old new = Extends old new (told text ∷ [])
Tells (Err failed) text old new = (more : List Passed) × IsBeginning text more × Breaks old new more
