-- What a command has made when it has read its files: an outcome that is still to be written, or why it ends before.
use Rattle.sim_store.specs.declared.fault.StoreFault.TheVariants as store
use Rattle.sim_top.specs.declared.status.Status.TheVariants.{Differs, Done, OutOfMemory, ReadFault, Usage, WriteFault}
use Rattle.sim_top.specs.declared.{commands.Answer.Answer, commands.Saved.Saved, status.Status.Status, stop.Stop.Stop}
use Rattle.sim_top.specs.{Common.Appends, Common.File, Common.Global, Common.StoreFault, Common.raised, Outcome.IsOutcome, Outcome.Outcome, Reads.Saves}
use Rattle.std.specs.Prelude.{[], Err, IfErr, IfOk, length, List, None, Ok, OnErr, Option, option_map, Result, Some, String, string_bytes, take, ℕ, ⊤, ◌<◌, ◌≡◌}
use Rattle.{sim_base.specs.declared.memory.OutOfMemory.OutOfMemory as Memory, sim_top.specs.Reads.SavesPart, sim_top.specs.Stops.Stopped}
use Rattle.{sim_top.specs.Stops.status_of, sim_top.specs.declared.stop.Stop.TheVariants.OutOfMemory as NoMemory, std.specs.Prelude.◌≢◌, std.specs.Prelude.◌⊎◌}

-- the file that is to be saved
abbrev pub file_of : Saved → File
file_of saved = record { name = saved.name.now; bytes = saved.bytes.items }

-- the outcome that an answer is
abbrev pub outcome_made : Answer → Outcome
outcome_made answer = record { status = answer.status; text = string_bytes answer.text; saved = option_map file_of answer.saved }

-- an outcome as it is wanted, or why the command ends before
abbrev pub Makes : Result Answer Stop → (Outcome → Type 0) → Type 0
Makes (Ok answer) wanted = wanted (outcome_made answer)
Makes (Err stop) wanted = Stopped stop wanted

-- the status of what a command made
abbrev pub status_made : Result Answer Stop → Status
status_made (Ok answer) = answer.status
status_made (Err stop) = status_of stop

-- the file of an outcome has this name alone, if there is one
abbrev pub IsFileAs : Option (List ℕ) → Option File → Type 0
IsFileAs out None = Unit {0}
IsFileAs None (Some file) = ⊥
IsFileAs (Some out) (Some file) = file.name ≡ out

-- a file is saved under this name alone, if at all
abbrev pub IsSavedAs : Option (List ℕ) → Option Saved → Type 0
IsSavedAs out None = Unit {0}
IsSavedAs None (Some saved) = ⊥
IsSavedAs (Some out) (Some saved) = saved.name.now ≡ out

-- just this outcome is made, or there is no memory for it
pub record IsMade (wanted : Outcome) (made : Result Answer Stop) : Type 0 where
  pub answers : IfOk made (λ answer. outcome_made answer ≡ wanted)
  pub stops : IfErr made (λ stop. stop ≡ NoMemory)

-- one of these outcomes is made, or there is no memory for it
pub record IsMadeAs (Wanted : Outcome → Type 0) (made : Result Answer Stop) : Type 0 where
  pub answers : IfOk made (λ answer. Wanted (outcome_made answer))
  pub stops : IfErr made (λ stop. stop ≡ NoMemory)

-- an outcome is made of what was made before it, or there is no memory for it, as where there was none for that
pub record IsMadeOf {X : Type 0} (before : Result X Memory) (wanted : X → Outcome) (now : Result Answer Stop) : Type 0 where
  pub made : IfOk now (λ answer. IfOk before (λ x. outcome_made answer ≡ wanted x))
  pub stops : IfErr now (λ stop. stop ≡ NoMemory)
  pub refused : OnErr before (now ≡ Err NoMemory)

-- an outcome that is still to be written is one of the words, or a read fault or want of memory came between
abbrev pub MeetsBefore : Status → List (List ℕ) → List File → List ℕ → Option File → Type 0
MeetsBefore ReadFault words files text saved = (text ≡ []) × (saved ≡ None)
MeetsBefore OutOfMemory words files text saved = (text ≡ []) × (saved ≡ None)
MeetsBefore WriteFault words files text saved = ⊥
MeetsBefore status words files text saved = IsOutcome words files (record { status = status; text = text; saved = saved })

-- a command that has its text ends as done; or, where nothing is saved, as one that found a difference
abbrev pub IsFinished : {X : Type 0} → Option X → Status → Type 0
IsFinished saved Done = Unit {0}
IsFinished None Differs = Unit {0}
IsFinished (Some saved) Differs = ⊥
IsFinished saved other = ⊥

-- words that are in no table make the usage text, or nothing without memory
abbrev pub IsUsageMade : List ℕ → Status → List ℕ → Type 0
IsUsageMade usage Usage text = text ≡ usage
IsUsageMade usage OutOfMemory text = text ≡ []
IsUsageMade usage other text = ⊥

-- a file is saved only where all was done
abbrev pub SavesIfDone : Option Saved → Status → Type 0
SavesIfDone None status = Unit {0}
SavesIfDone (Some saved) status = status ≡ Done

-- a status with which all was written, or nothing was to be written
abbrev pub IsSettled : Status → Type 0
IsSettled WriteFault = ⊥
IsSettled OutOfMemory = ⊥
IsSettled other = Unit {0}

-- the text of a status, or nothing for want of memory
abbrev pub IsAnswered : Status → List ℕ → Status → Result (String Global) Memory → Type 0
IsAnswered status text wanted (Ok made) = (status ≡ wanted) × (text ≡ string_bytes made)
IsAnswered status text wanted (Err e) = (status ≡ OutOfMemory) × (text ≡ [])

-- the file, if there is one, is saved whole; or after a fault in part or not at all, and without memory not at all
abbrev pub SaveMeets : Result ⊤ StoreFault → Option File → Option (List File) → Option (List File) → Type 0
SaveMeets (Ok saved) file old new = Saves file old new
SaveMeets (Err store.WriteFault) file old new = SavesPart file old new
SaveMeets (Err store.OutOfMemory) file old new = (new ≡ old) × (file ≢ None)
SaveMeets (Err other) file old new = ⊥

-- the text could not be told to its end, for a fault that was counted
pub record IsCutShort (result : Status) (text : List ℕ) (told told' : Option (List ℕ)) (faults faults' : ℕ) : Type 0 where
  pub status : result ≡ WriteFault
  pub part : ℕ
  pub less : part < length text
  pub text_told : Appends told told' (take part text)
  pub counted : faults' ≡ raised 1 faults

-- the status stays, and the whole text was told
pub record IsWhole (result status : Status) (text : List ℕ) (told told' : Option (List ℕ)) (faults faults' : ℕ) : Type 0 where
  pub same : result ≡ status
  pub text_told : Appends told told' text
  pub uncounted : faults' ≡ faults

-- the text was told whole, or it was cut short
abbrev pub Tells : Status → Status → List ℕ → Option (List ℕ) → Option (List ℕ) → ℕ → ℕ → Type 0
Tells result status text told told' faults faults' = IsWhole result status text told told' faults faults' ⊎ IsCutShort result text told told' faults faults'
