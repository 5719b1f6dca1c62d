-- Talks in which each line is answered before the next one is heard. Who answers is told by two functions: what is answered to a
-- line, by what he has come to, and what he comes to by it.
use Rattle.sim_talk.specs.declared.fault.TalkFault.TheVariants as ends
use Rattle.{sim_store.specs.Shelf.Rose, sim_talk.specs.{declared.fault.TalkFault.TalkFault, Lines.ReadCounts}}
use Rattle.sim_talk.specs.Talks.{Breaks, Extends, HasLost, heard, heard_bytes, History, IsBeginning, Loses, Misses, Passed, told, WritesAll}
use Rattle.std.specs.{Io.KnownBytes.IsAtEnd, Prelude.{Err, length, List, None, Ok, Option, Result, Some, ℕ, ⊤, [], ◌++◌, ◌-◌, ◌<◌, ◌^◌, ◌∷◌, ◌≡◌, ◌⊎◌}}

-- what he has come to after these lines
abbrev pub after_lines : {S : Type 0} → (S → List ℕ → S) → S → List (List ℕ) → S
after_lines next s [] = s
after_lines next s (line ∷ lines) = after_lines next (next s line) lines

-- all that passes as these lines are answered: each answer is told before the next line is heard
abbrev pub dialogue : {S : Type 0} → (S → List ℕ → List ℕ) → (S → List ℕ → S) → S → List (List ℕ) → List Passed
dialogue answer next s [] = []
dialogue answer next s (line ∷ lines) = heard line ∷ told (answer s line) ∷ dialogue answer next (next s line) lines

-- ---- a whole talk: a text at its beginning, the answers, and a text at its end

-- to the last of these lines
abbrev pub talk_so_far : {S : Type 0} → (S → List ℕ → List ℕ) → (S → List ℕ → S) → S → List ℕ → List (List ℕ) → List Passed
talk_so_far answer next s first lines = told first ∷ dialogue answer next s lines

-- to the end of the input
abbrev pub whole_talk : {S : Type 0} → (S → List ℕ → List ℕ) → (S → List ℕ → S) → (S → List ℕ) → S → List ℕ → List (List ℕ) → List Passed
whole_talk answer next last s first lines = talk_so_far answer next s first lines ++ told (last (after_lines next s lines)) ∷ []

-- how far it came where writing failed: to a text, of which a beginning was told, or nothing; or to where a line was to be heard
pub data IsUntold {S : Type 0} (answer : S → List ℕ → List ℕ) (next : S → List ℕ → S) (last : S → List ℕ) (s : S) (first : List ℕ) : List Passed → Type 0 where
  first_part : (more : List Passed) → IsBeginning first more → IsUntold answer next last s first more
  no_line : (lines : List (List ℕ)) → IsUntold answer next last s first (talk_so_far answer next s first lines)
  answer_part : (lines : List (List ℕ)) (line : List ℕ) (more : List Passed) → IsBeginning (answer (after_lines next s lines) line) more
      → IsUntold answer next last s first (talk_so_far answer next s first lines ++ heard line ∷ more)
  last_part : (lines : List (List ℕ)) (more : List Passed) → IsBeginning (last (after_lines next s lines)) more
      → IsUntold answer next last s first (talk_so_far answer next s first lines ++ more)

-- how far it came where memory was refused for a text, of which nothing was told
pub data IsUnmade {S : Type 0} (answer : S → List ℕ → List ℕ) (next : S → List ℕ → S) (s : S) (first : List ℕ) : List Passed → Type 0 where
  no_first : IsUnmade answer next s first []
  no_answer : (lines : List (List ℕ)) (line : List ℕ) → IsUnmade answer next s first (talk_so_far answer next s first lines ++ heard line ∷ [])
  no_last : (lines : List (List ℕ)) → IsUnmade answer next s first (talk_so_far answer next s first lines)

-- no more was to come than the lines that were heard, unless they are as many as can be counted
abbrev pub IsAll : Option (List ℕ) → List (List ℕ) → List Passed → Type 0
IsAll None lines passed = Unit {0}
IsAll (Some coming) lines passed = length lines < 2 ^ 64 - 1 → coming ≡ heard_bytes passed

-- what was heard and told in a talk, by how it ended: all lines were answered, to the end of the input; or a line was not heard behind
-- those that were answered, each whole; or writing failed; or memory was refused for a text
abbrev pub Speaks : {S : Type 0} → Result ⊤ TalkFault → (S → List ℕ → List ℕ) → (S → List ℕ → S) → (S → List ℕ) → S → List ℕ → History → History → Type 0
Speaks (Ok done) answer next last s first old new =
    (lines : List (List ℕ)) × Extends old new (whole_talk answer next last s first lines) × IsAll old.coming lines (whole_talk answer next last s first lines)
Speaks (Err (ends.Unheard cause)) answer next last s first old new =
    (lines : List (List ℕ)) × (before : History) × Extends old before (talk_so_far answer next s first lines) × Misses cause before new
Speaks (Err ends.Untold) answer next last s first old new = (passed : List Passed) × IsUntold answer next last s first passed × Extends old new passed
Speaks (Err ends.OutOfMemory) answer next last s first old new = (passed : List Passed) × IsUnmade answer next s first passed × Extends old new passed

-- a talk: where writing failed, a beginning was written of what was told, however far it came
abbrev pub Converses : {S : Type 0} → Result ⊤ TalkFault → (S → List ℕ → List ℕ) → (S → List ℕ → S) → (S → List ℕ) → S → List ℕ → History → History → Type 0
Converses (Ok done) answer next last s first old new = Speaks (Ok done) answer next last s first old new
Converses (Err (ends.Unheard cause)) answer next last s first old new = Speaks (Err (ends.Unheard cause)) answer next last s first old new
Converses (Err ends.Untold) answer next last s first old new =
    (outcome : Result ⊤ TalkFault) × (before : History) × Speaks outcome answer next last s first old before × HasLost before new
Converses (Err ends.OutOfMemory) answer next last s first old new = Speaks (Err ends.OutOfMemory) answer next last s first old new

-- its end: all that was kept is written and it ends as it did, or that fails, and so it ends
abbrev pub EndsAs : Result ⊤ TalkFault → Result ⊤ TalkFault → History → History → Type 0
EndsAs outcome result old new = ((result ≡ outcome) × WritesAll old new) ⊎ ((result ≡ Err ends.Untold) × Loses old new)

-- what was counted in it: where a text was not told a write failed, where reading failed that was counted, and nothing failed where it
-- ended otherwise. A count that stands at its last value does not rise.
abbrev pub Causes : Result ⊤ TalkFault → History → History → Type 0
Causes (Ok done) old new = (new.unread ≡ old.unread) × (new.unwritten ≡ old.unwritten)
Causes (Err (ends.Unheard cause)) old new = ReadCounts (Err cause) old.unread new.unread × (new.unwritten ≡ old.unwritten)
Causes (Err ends.Untold) old new = Rose old.unwritten new.unwritten
Causes (Err ends.OutOfMemory) old new = (new.unread ≡ old.unread) × (new.unwritten ≡ old.unwritten)

-- ---- its parts

-- a text was told; or a beginning of it, or nothing; or memory was refused for it
abbrev pub TellsText : Result ⊤ TalkFault → List ℕ → History → History → Type 0
TellsText (Ok done) text old new = Extends old new (told text ∷ [])
TellsText (Err (ends.Unheard cause)) text old new = ⊥
TellsText (Err ends.Untold) text old new = (more : List Passed) × IsBeginning text more × Breaks old new more
TellsText (Err ends.OutOfMemory) text old new = Extends old new []

-- what passed behind some lines where writing failed: nothing, or a line and a beginning of its answer
pub data IsCutOff (answer : List ℕ → List ℕ) : List Passed → Type 0 where
  before_line : IsCutOff answer []
  amid_answer : (line : List ℕ) (more : List Passed) → IsBeginning (answer line) more → IsCutOff answer (heard line ∷ more)

-- all lines were answered, to the end of the input; or it stopped behind them, with at most one line more
abbrev pub AnswersLines : {S : Type 0} → Result ⊤ TalkFault → (S → List ℕ → List ℕ) → (S → List ℕ → S) → S → List (List ℕ) → History → History → Type 0
AnswersLines (Ok done) answer next s lines old new = Extends old new (dialogue answer next s lines) × (length lines < 2 ^ 64 - 1 → IsAtEnd new.coming)
AnswersLines (Err (ends.Unheard cause)) answer next s lines old new =
    (before : History) × Extends old before (dialogue answer next s lines) × Misses cause before new
AnswersLines (Err ends.Untold) answer next s lines old new =
    (more : List Passed) × IsCutOff (answer (after_lines next s lines)) more × Breaks old new (dialogue answer next s lines ++ more)
AnswersLines (Err ends.OutOfMemory) answer next s lines old new =
    (line : List ℕ) × Extends old new (dialogue answer next s lines ++ heard line ∷ [])
