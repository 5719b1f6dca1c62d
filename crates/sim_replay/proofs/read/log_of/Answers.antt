-- The answer is that of the definition, of which its theorems speak.
use Rattle.sim_replay.proofs.{Common.text_of_log, Common.◌∙◌, Ending.Small, Whole.reads-itself, Whole.Says, Whole.says}
use Rattle.sim_replay.proofs.Common.{◌≡◌, ℕ, List, IfOk, Ok, Err, Result, ap, IsLog, IsRefusedAt, Log, log_of, LogFault, Meets, Refused, Setup, subst}
use Rattle.sim_replay.proofs.read.log_of.Goals as goal

ok_said : (setup : Setup) (bytes : List ℕ) (r : Result Log LogFault) → Small setup → Meets r (log_of setup bytes)
    → IfOk r (λ log. IsLog setup log × (bytes ≡ text_of_log setup log))
ok_said setup bytes (Ok log) is meets = subst (Says setup bytes) meets (says setup bytes is)
ok_said setup bytes (Err fault) is meets = tt

itself_said : (setup : Setup) (bytes : List ℕ) (r : Result Log LogFault) → Small setup → Meets r (log_of setup bytes) → (log : Log) → IsLog setup log
    → bytes ≡ text_of_log setup log → IfOk r (λ read. read ≡ log)
itself_said setup bytes (Ok read) is meets log is_log same =
    equal (log_of setup bytes) read log meets (ap (log_of setup) same ∙ reads-itself setup log is is_log)
  where
    equal : (o : Result Log ℕ) (x y : Log) → o ≡ Ok x → o ≡ Ok y → x ≡ y
    equal o x y e h = cc
itself_said setup bytes (Err fault) is meets log is_log same = tt

refused_said : (setup : Setup) (bytes : List ℕ) (r : Result Log LogFault) → Small setup → Meets r (log_of setup bytes) → (line : ℕ) → r ≡ Err (Refused line)
    → IsRefusedAt setup bytes line
refused_said setup bytes r is meets line e =
    let here : log_of setup bytes ≡ Err line = subst (λ (x : Result Log LogFault). Meets x (log_of setup bytes)) e meets in
    subst (Says setup bytes) here (says setup bytes is)

pub returns-clause-ok : goal.returns-clause-ok
returns-clause-ok c = ok_said c.args.setup.now c.args.bytes.now c.read_log.result
    (record { players = c.numbers_fit.ensures.players; turns = c.numbers_fit.ensures.turns }) c.read_log.ensures.meets

pub returns-clause-itself : goal.returns-clause-itself
returns-clause-itself c = itself_said c.args.setup.now c.args.bytes.now c.read_log.result
    (record { players = c.numbers_fit.ensures.players; turns = c.numbers_fit.ensures.turns }) c.read_log.ensures.meets

pub returns-clause-refused : goal.returns-clause-refused
returns-clause-refused c = refused_said c.args.setup.now c.args.bytes.now c.read_log.result
    (record { players = c.numbers_fit.ensures.players; turns = c.numbers_fit.ensures.turns }) c.read_log.ensures.meets
