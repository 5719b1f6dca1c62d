-- Calls that are made again where a signal interrupts them.
use Rattle.std.specs.{declared.io.{Error.Error, ErrorKind.TheVariants.Interrupted}, IoError.error_kind, Prelude.{Err, List, Ok, Result, suc, zero, ℕ, ◌≡◌, ◌⊎◌}}

-- a signal came before the call had moved anything
abbrev pub IsInterrupted : {T : Type 0} → Result T Error → Type 0
IsInterrupted (Ok value) = ⊥
IsInterrupted (Err error) = error_kind error ≡ Interrupted

-- a call is made anew at most so often. Each one that is made again was interrupted; the answer is that of the last, and is an
-- interruption only where no more are to be made. A call leads from a state by an answer to a state.
unfoldable pub AnswersIn : {S T : Type 0} → (S → Result T Error → S → Type 0) → ℕ → S → Result T Error → S → Type 0
AnswersIn call zero old answer new = call old answer new
AnswersIn {S} {T} call (suc tries) old answer new =
    (call old answer new × ¬ IsInterrupted answer)
    ⊎ ((between : S) × (lost : Result T Error) × call old lost between × IsInterrupted lost
    × AnswersIn call tries between answer new)

-- a read as a call: what is read stands beside the buffer
abbrev pub read_call : {F : Type 0} → (F → List ℕ → Result ℕ Error → F → List ℕ → Type 0)
    → (F × List ℕ) → Result ℕ Error → (F × List ℕ) → Type 0
read_call gives old answer new = gives old.0 old.1 answer new.0 new.1

-- a write of a piece as a call
abbrev pub write_call : {F : Type 0} → (F → List ℕ → Result ℕ Error → F → Type 0) → List ℕ → F → Result ℕ Error → F → Type 0
write_call gives piece old answer new = gives old piece answer new
