-- What is read of bytes whose first line is known, or that have none.
use Rattle.sim_replay.proofs.Common.{[], ap, arith, bytes_eq, Err, false, header_line, length, length-slice_split, List, log_of, log_of_parts, LogFault, Meets}
use Rattle.sim_replay.proofs.Common.{next_or_refused, nothing, Option, parts_of, read_parts, Reading, refl, Refused, Result, Setup, sym, taken, ℕ, ◌+◌, ◌<◌}
use Rattle.sim_replay.proofs.{Common.◌==◌, Common.◌∙◌, Common.◌∷◌, Common.◌≡◌, Whole.alone, Whole.behind_header, Whole.last_of, Whole.other_header, Whole.step}
use Rattle.sim_replay.specs.{Logs.IsFirstLine, Meets.Tells, declared.fault.LogFault.TheVariants.OutOfMemory}

-- bytes have a part at least
some_part : (bytes : List ℕ) → 0 < length (parts_of bytes)
some_part bytes = omega (arith, length-slice_split (λ b. b == 10) bytes)

-- the first line is read, and then the rest
pub read_line : (setup : Setup) (read : Reading) (number : ℕ) (bytes line more : List ℕ) → IsFirstLine bytes line more → (next : Option Reading)
    → next ≡ taken setup read line
    → read_parts setup read number (parts_of bytes) ≡ next_or_refused number next (λ n. read_parts setup n (number + 1) (parts_of more))
read_line setup read number bytes line more is next e =
    ap (read_parts setup read number) is.0 ∙ step setup read number line (parts_of more) (some_part more)
    ∙ ap (λ (o : Option Reading). next_or_refused number o (λ n. read_parts setup n (number + 1) (parts_of more))) (sym e)

-- with no line there is only the rest
rest_alone : (setup : Setup) (read : Reading) (number : ℕ) (rest : List ℕ) → read_parts setup read number (rest ∷ []) ≡ last_of read number rest
unfolding read_parts
rest_alone setup read number rest = refl

pub read_rest : (setup : Setup) (read : Reading) (number : ℕ) (bytes : List ℕ) → parts_of bytes ≡ bytes ∷ []
    → read_parts setup read number (parts_of bytes) ≡ last_of read number bytes
read_rest setup read number bytes e = ap (read_parts setup read number) e ∙ rest_alone setup read number bytes

-- what is read of whole bytes
pub no_lines : (setup : Setup) (bytes : List ℕ) → parts_of bytes ≡ bytes ∷ [] → log_of setup bytes ≡ Err 1
no_lines setup bytes e = ap (log_of_parts setup) e ∙ alone setup bytes

pub headed_lines : (setup : Setup) (bytes line more : List ℕ) → IsFirstLine bytes line more → line ≡ header_line setup
    → log_of setup bytes ≡ read_parts setup nothing 2 (parts_of more)
headed_lines setup bytes line more is same =
    ap (log_of_parts setup) (is.0 ∙ ap (λ (l : List ℕ). l ∷ parts_of more) same) ∙ behind_header setup (parts_of more) (some_part more)

pub other_lines : (setup : Setup) (bytes line more : List ℕ) → IsFirstLine bytes line more → bytes_eq line (header_line setup) ≡ false
    → log_of setup bytes ≡ Err 1
other_lines setup bytes line more is other = ap (log_of_parts setup) is.0 ∙ other_header setup line (parts_of more) other

-- what is answered
pub refused_meets : {X : Type 0} (fault : LogFault) (number : ℕ) (wanted : Result X ℕ) → Tells fault number → wanted ≡ Err number → Meets (Err fault) wanted
refused_meets (Refused line) number wanted tells e = e ∙ ap Err (sym tells)
refused_meets OutOfMemory number wanted tells e = tt
