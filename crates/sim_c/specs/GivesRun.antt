-- How what a run came to is put where C wants it.
use Rattle.sim_packed.specs.declared.running.Unrun.TheVariants as causes
use Rattle.std.specs.Prelude.{Bool, Err, IfErr, IfOk, List, Ok, Result, drop, if◌then◌else◌, length, nat_le, pos, ℕ, ℤ, ◌&&◌, ◌++◌, ◌≡◌}
use Rattle.{sim_packed.specs.declared.running.Printed.Printed, sim_packed.specs.declared.running.Unrun.Unrun, sim_top.specs.Reads.status_number}

-- there is a run of which one thing holds, or a cause for none of which another does, and it is put so
pub record AnswersRun (Is : Printed → Type 0) (IsCause : Unrun → Type 0) (Puts : Result Printed Unrun → Type 0) : Type 0 where
  pub answer : Result Printed Unrun
  pub is : IfOk answer Is
  pub cause : IfErr answer IsCause
  pub puts : Puts answer

-- what a call that runs a command can write: its text, the file that it stores, and how long both are
pub record Papers : Type 0 where
  pub text : List ℕ
  pub text_written : ℕ
  pub out : List ℕ
  pub out_written : ℕ

abbrev pub papers : List ℕ → ℕ → List ℕ → ℕ → Papers
papers text text_written out out_written = record { text = text; text_written = text_written; out = out; out_written = out_written }

-- whether the text and the file have room
abbrev pub fit : Printed → List ℕ → List ℕ → Bool
fit printed text out = nat_le (length printed.text.items) (length text) && nat_le (length printed.out.items) (length out)

-- bytes stand at the front of the room, if they are put there
abbrev pub put_if : Bool → List ℕ → List ℕ → List ℕ
put_if puts bytes room = if puts then bytes ++ drop (length bytes) room else room

-- the status of the run, or that a room is too small
abbrev pub run_status : Printed → List ℕ → List ℕ → ℤ
run_status printed text out = if fit printed text out then pos (status_number printed.status) else pos 100

-- what stands after a run: the text and the file in their rooms, or nothing in either, and how long both are
abbrev pub papers_with : Printed → Papers → Papers
papers_with printed old =
    let fits = fit printed old.text old.out in
    papers (put_if fits printed.text.items old.text) (length printed.text.items) (put_if fits printed.out.items old.out) (length printed.out.items)

-- the text and the file are put into their rooms, both or none, and their lengths are told; where there is no run nothing is written
abbrev pub GivesRun : ℤ → Papers → Papers → Result Printed Unrun → Type 0
GivesRun status old new (Ok printed) = (status ≡ run_status printed old.text old.out) × (new ≡ papers_with printed old)
GivesRun status old new (Err causes.Files) = (status ≡ pos 106) × (new ≡ old)
GivesRun status old new (Err causes.OutOfMemory) = (status ≡ pos 9) × (new ≡ old)
