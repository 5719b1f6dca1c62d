-- What the edge answers and counts, by what the system answered.
use Rattle.sim_store.specs.declared.fault.ShelfFault.TheVariants as fault
use Rattle.sim_edge.specs.{Again.{AnswersIn, read_call, write_call}, declared.again.TheConstants.TRIES}
use Rattle.sim_store.specs.{declared.{counts.Counts.Counts, fault.{Failed.Failed, ShelfFault.ShelfFault}}, Shelf.{after_miss, after_read_fault}}
use Rattle.{sim_store.specs.Shelf.after_write_fault, std.specs.declared.io.{Error.Error, ErrorKind.{ErrorKind, TheVariants.{NotFound, OutOfMemory}}}}
use Rattle.std.specs.{IoError.error_kind, Prelude.{Bool, Err, false, IsErr, IsOk, length, List, None, Ok, Option, Result, Some, true, ℕ, ⊤, ◌<◌, ◌≡◌, ◌≢◌}}

-- ---- opening

-- a file that could not be opened is missing, or there was no memory, or it is a read fault, by the kind of the error
pub record Unopened (kind : ErrorKind) (result : Result Bool ShelfFault) (old new : Counts) : Type 0 where
  pub missing : kind ≡ NotFound → (result ≡ Ok false) × (new ≡ after_miss old)
  pub memory : kind ≡ OutOfMemory → (result ≡ Err fault.OutOfMemory) × (new ≡ old)
  pub failed : kind ≢ NotFound → kind ≢ OutOfMemory → (result ≡ Err fault.Failed) × (new ≡ after_read_fault old)

-- what is answered, open and counted after the system has opened a file or has not
abbrev pub OpenedAs : {File : Type 0} → Result File Error → Result Bool ShelfFault → Option File → Counts → Counts → Type 0
OpenedAs (Ok file) result reading old new = (result ≡ Ok true) × (reading ≡ Some file) × (new ≡ old)
OpenedAs (Err error) result reading old new = (reading ≡ None) × Unopened (error_kind error) result old new

-- the system was asked for the file of this name, and what it answered is what is answered
abbrev pub Opens : {Files File : Type 0} → (Files → List ℕ → Result File Error → Files → Type 0)
    → Files → List ℕ → Files → Result Bool ShelfFault → Option File → Counts → Counts → Type 0
Opens {Files} {File} gives files name files' result reading old new =
    (answer : Result File Error) × gives files name answer files' × OpenedAs answer result reading old new

-- ---- making

-- where a file could not be made there was no memory, or it is a write fault, by the kind of the error
pub record Unmade (kind : ErrorKind) (refused : ShelfFault) (old new : Counts) : Type 0 where
  pub memory : kind ≡ OutOfMemory → (refused ≡ fault.OutOfMemory) × (new ≡ old)
  pub failed : kind ≢ OutOfMemory → (refused ≡ fault.Failed) × (new ≡ after_write_fault old)

-- what is answered, being made and counted after the system has made a file or has not
abbrev pub MadeAs : {File : Type 0} → Result File Error → Result ⊤ ShelfFault → Option File → Counts → Counts → Type 0
MadeAs (Ok file) result making old new = IsOk result × (making ≡ Some file) × (new ≡ old)
MadeAs (Err error) (Ok made) making old new = ⊥
MadeAs (Err error) (Err refused) making old new = (making ≡ None) × Unmade (error_kind error) refused old new

-- the system was asked to make the file of this name, and what it answered is what is answered
abbrev pub Makes : {Files File : Type 0} → (Files → List ℕ → Result File Error → Files → Type 0)
    → Files → List ℕ → Files → Result ⊤ ShelfFault → Option File → Counts → Counts → Type 0
Makes {Files} {File} gives files name files' result making old new =
    (answer : Result File Error) × gives files name answer files' × MadeAs answer result making old new

-- ---- reading

-- a read that the system failed has failed
abbrev pub ReadAs : Result ℕ Error → Result ℕ Failed → Type 0
ReadAs (Ok count) result = result ≡ Ok count
ReadAs (Err error) result = IsErr result

-- the open file was read, and again where a signal interrupted that, and what the system answered is what is answered
abbrev pub Reads : {File : Type 0} → (File → List ℕ → Result ℕ Error → File → List ℕ → Type 0)
    → Option File → List ℕ → Result ℕ Failed → Option File → List ℕ → Type 0
Reads gives (Some file) into result (Some file') into' =
    (answer : Result ℕ Error) × AnswersIn (read_call gives) TRIES (file, into) answer (file', into') × ReadAs answer result
Reads gives old into result new into' = ⊥

-- an input was read, and again where a signal interrupted that, and what the system answered is what is answered
abbrev pub ReadsOnce : {File : Type 0} → (File → List ℕ → Result ℕ Error → File → List ℕ → Type 0)
    → File → List ℕ → Result ℕ Failed → File → List ℕ → Type 0
ReadsOnce gives file into result file' into' =
    (answer : Result ℕ Error) × AnswersIn (read_call gives) TRIES (file, into) answer (file', into') × ReadAs answer result

-- ---- writing

-- a write took so much of a piece. One that took nothing of it would be made for ever, so it is a failed one.
pub record TakenAs (count : ℕ) (piece : List ℕ) (result : Result ℕ Failed) : Type 0 where
  pub some : 0 < count → result ≡ Ok count
  pub whole : length piece ≡ 0 → result ≡ Ok count
  pub none : count ≡ 0 → 0 < length piece → IsErr result

-- a write that the system failed has failed
abbrev pub WrittenAs : Result ℕ Error → List ℕ → Result ℕ Failed → Type 0
WrittenAs (Ok count) piece result = TakenAs count piece result
WrittenAs (Err error) piece result = IsErr result

-- the piece was written once, and again where a signal interrupted that, and what the system answered is what is answered
abbrev pub Writes : {File : Type 0} → (File → List ℕ → Result ℕ Error → File → Type 0)
    → List ℕ → File → Result ℕ Failed → File → Type 0
Writes gives piece old result new =
    (answer : Result ℕ Error) × AnswersIn (write_call gives piece) TRIES old answer new × WrittenAs answer piece result

-- the same of the file that is being made
abbrev pub WritesMade : {File : Type 0} → (File → List ℕ → Result ℕ Error → File → Type 0)
    → List ℕ → Option File → Result ℕ Failed → Option File → Type 0
WritesMade gives piece (Some file) result (Some file') = Writes gives piece file result file'
WritesMade gives piece old result new = ⊥

-- the system was handed the file that was being made, to close it
abbrev pub Closes : {Files File : Type 0} → (Files → File → Files → Type 0) → Files → Option File → Files → Type 0
Closes gives files (Some file) files' = gives files file files'
Closes gives files None files' = ⊥
