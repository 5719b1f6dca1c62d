-- Bytes that are read are the text of the log, and those that are refused are the text of none.
use Rattle.{sim_base.proofs.Lists.bytes_eq-same, sim_replay.proofs.Common.{All, All-append, All-cons, All-head, All-map, All-nil, All-tail, All-weaker, ap}}
use Rattle.sim_replay.proofs.Common.{append-nil, append_assoc, AreOrders, arith, BeginsLog, Bool, bytes_eq, bytes_eq-Decides, cases_lt, cond, cond-false}
use Rattle.sim_replay.proofs.Common.{cond-true, digest_line, drop, ended, eqb-true, Err, false, false≢true, flat_map, header_line, inl, inr, IsLog, IsOrder}
use Rattle.sim_replay.proofs.Common.{IsRefusedAt, join_with_byte, join_with_byte-slice_split, length, length-append, length-slice_split, lines_from, List}
use Rattle.sim_replay.proofs.Common.{list_all, Log, log_in, log_lines, log_of, log_of_parts, map, next_or_refused, None, nothing, Ok, Option, or_refused}
use Rattle.sim_replay.proofs.Common.{order_line, parts_of, PlayerCommand, read_parts, Reading, refl, Result, Setup, Some, subst, suc, sym, take}
use Rattle.sim_replay.proofs.Common.{take-append-drop, take-append_seam, take-take, take_all, taken, text_of_log, true, turn_lines, whole_lines, zero, ℕ, []}
use Rattle.sim_replay.proofs.{Common.{◌++◌, ◌+◌, ◌-◌, ◌<◌, ◌==◌, ◌>>=◌, ◌^◌, ◌∙◌, ◌∷◌, ◌≡◌, ◌≤◌}, Cuts.{bind_none, bind_some, inner_is_no_end, is_inner}}
use Rattle.sim_replay.proofs.{Cuts.split_first, Ending.{begins-read, between, ends-log, Front, front, log-taken, log_in-log, Small, spells-all, spells-nothing}}
use Rattle.sim_replay.proofs.{Ending.taken_all, PrintedLines.{inner-digest_line, inner-header, inner-order_line}}

-- ---- the parts of a text of lines

parts-ended : (lines : List (List ℕ)) → All (λ line. list_all is_inner line ≡ true) lines → parts_of (flat_map ended lines) ≡ lines ++ [] ∷ []
parts-ended [] inner = refl
parts-ended (line ∷ lines) inner =
    ap parts_of (append_assoc line (10 ∷ []) (flat_map ended lines))
    ∙ split_first (λ b. b == 10) is_inner inner_is_no_end line 10 (flat_map ended lines) (All-head (λ l. list_all is_inner l ≡ true) line lines inner) refl
    ∙ ap (λ (ls : List (List ℕ)). line ∷ ls) (parts-ended lines (All-tail (λ l. list_all is_inner l ≡ true) line lines inner))

joined-ended : (lines : List (List ℕ)) → join_with_byte 10 (lines ++ [] ∷ []) ≡ flat_map ended lines
joined-ended [] = refl
joined-ended (line ∷ []) = sym (append-nil (line ++ 10 ∷ []))
joined-ended (line ∷ next ∷ lines) = ap (λ (bytes : List ℕ). line ++ (10 ∷ bytes)) (joined-ended (next ∷ lines)) ∙
    sym (append_assoc line (10 ∷ []) (flat_map ended (next ∷ lines)))

-- parts are lines, and what stands behind the last line feed
record Lined (parts : List (List ℕ)) : Type 0 where
  lines : List (List ℕ)
  rest : List ℕ
  parts_are : parts ≡ lines ++ rest ∷ []

lined : (parts : List (List ℕ)) → 0 < length parts → Lined parts
lined [] some = absurd (omega arith)
lined (rest ∷ []) some = record { lines = []; rest = rest; parts_are = refl }
lined (line ∷ part ∷ parts) some =
    let l = lined (part ∷ parts) (omega arith) in
    record { lines = line ∷ l.lines; rest = l.rest; parts_are = ap (λ (ps : List (List ℕ)). line ∷ ps) l.parts_are }

-- so the lines are the whole ones
whole-is : (bytes : List ℕ) (lines : List (List ℕ)) (rest : List ℕ) → parts_of bytes ≡ lines ++ rest ∷ [] → whole_lines bytes ≡ lines
whole-is bytes lines rest e =
    let count : length (lines ++ rest ∷ []) - 1 ≡ length lines = omega (arith, length-append lines (rest ∷ [])) in
    ap (λ (ps : List (List ℕ)). take (length ps - 1) ps) e ∙ ap (λ (n : ℕ). take n (lines ++ rest ∷ [])) count ∙ take-append_seam lines (rest ∷ [])

-- ---- the lines of a log

inner-turn : (setup : Setup) (turn : ℕ) (orders : List PlayerCommand) (digest : List ℕ) → Small setup → turn < 2 ^ 64 → AreOrders setup orders
    → All (λ line. list_all is_inner line ≡ true) (turn_lines turn orders digest)
inner-turn setup turn orders digest small below are =
    All-append (λ line. list_all is_inner line ≡ true) (map (order_line turn) orders) (digest_line turn digest ∷ [])
    (All-map (λ line. list_all is_inner line ≡ true) (order_line turn) orders
    (All-weaker (IsOrder setup) (λ (o : PlayerCommand). list_all is_inner (order_line turn o) ≡ true)
    (λ o is. inner-order_line turn o below (omega (arith, is.player.1, small.players)) is.fits) orders are.each))
    (All-cons (λ line. list_all is_inner line ≡ true) (digest_line turn digest) [] (inner-digest_line turn digest below)
    (All-nil (λ line. list_all is_inner line ≡ true)))

inner-turns : (setup : Setup) (turn : ℕ) (turns : List (List PlayerCommand)) (digests : List (List ℕ)) → Small setup → turn + length turns < 2 ^ 64
    → All (AreOrders setup) turns → All (λ line. list_all is_inner line ≡ true) (lines_from turn turns digests)
inner-turns setup turn [] digests small below are = All-nil (λ line. list_all is_inner line ≡ true)
inner-turns setup turn (o ∷ os) [] small below are = All-nil (λ line. list_all is_inner line ≡ true)
inner-turns setup turn (o ∷ os) (d ∷ ds) small below are =
    All-append (λ line. list_all is_inner line ≡ true) (turn_lines turn o d) (lines_from (turn + 1) os ds)
    (inner-turn setup turn o d small (omega arith) (All-head (AreOrders setup) o os are))
    (inner-turns setup (turn + 1) os ds small (omega arith) (All-tail (AreOrders setup) o os are))

inner-log : (setup : Setup) (log : Log) → Small setup → IsLog setup log → All (λ line. list_all is_inner line ≡ true) (log_lines setup log)
inner-log setup log small is =
    All-cons (λ line. list_all is_inner line ≡ true) (header_line setup) (lines_from 0 ([] ∷ log.turns) log.digests) (inner-header setup)
    (inner-turns setup 0 ([] ∷ log.turns) log.digests small (omega (arith, is.few, small.turns))
    (All-cons (AreOrders setup) [] log.turns (record { each = All-nil (IsOrder setup); few = λ player. omega arith }) is.turns))

-- ---- lines read to their end, or to the one that is refused

-- what comes of the last reading
abbrev pub last_of : Reading → ℕ → List ℕ → Result Log ℕ
last_of read number rest = cond (length rest == 0) (or_refused number (log_in read)) (Err number)

pub step : (setup : Setup) (read : Reading) (number : ℕ) (line : List ℕ) (parts : List (List ℕ)) → 0 < length parts
    → read_parts setup read number (line ∷ parts) ≡
    next_or_refused number (taken setup read line) (λ next. read_parts setup next (number + 1) parts)
unfolding read_parts
step setup read number line [] some = absurd (omega arith)
step setup read number line (part ∷ parts) some = refl

some_parts : (lines : List (List ℕ)) (rest : List ℕ) → 0 < length (lines ++ rest ∷ [])
some_parts lines rest = omega (arith, length-append lines (rest ∷ []))

all-read : (setup : Setup) (read last : Reading) (number : ℕ) (lines : List (List ℕ)) (rest : List ℕ) → taken_all setup read lines ≡ Some last
    → read_parts setup read number (lines ++ rest ∷ []) ≡ last_of last (number + length lines) rest
unfolding read_parts
all-read setup read last number [] rest e =
    let same : read ≡ last = cc in
    let count : number ≡ number + 0 = omega arith in
    ap (λ (r : Reading). last_of r number rest) same ∙ ap (λ (n : ℕ). last_of last n rest) count
all-read setup read last number (line ∷ lines) rest e = by (λ next h. all-read setup next last (number + 1) lines rest h) (taken setup read line) refl e
  where
    by : ((next : Reading) → taken_all setup next lines ≡ Some last → read_parts setup next (number + 1) (lines ++ rest ∷ []) ≡ last_of last
        (number + 1 + length lines) rest)
        → (o : Option Reading) → taken setup read line ≡ o → (o >>= λ next. taken_all setup next lines) ≡ Some last
        → read_parts setup read number (line ∷ (lines ++ rest ∷ [])) ≡ last_of last (number + length (line ∷ lines)) rest
    by more None is h = absurd cc
    by more (Some next) is h =
        let count : number + 1 + length lines ≡ number + length (line ∷ lines) = omega arith in
        step setup read number line (lines ++ rest ∷ []) (some_parts lines rest) ∙
        ap (λ (o : Option Reading). next_or_refused number o (λ n. read_parts setup n (number + 1) (lines ++ rest ∷ []))) is
        ∙ more next h ∙ ap (λ (n : ℕ). last_of last n rest) count

-- the lines before the one that is refused were taken
record Stopped (setup : Setup) (read : Reading) (number : ℕ) (lines : List (List ℕ)) (rest : List ℕ) : Type 0 where
  count : ℕ
  less : count < length lines
  mid : Reading
  before : taken_all setup read (take count lines) ≡ Some mid
  here : taken_all setup read (take (count + 1) lines) ≡ None
  gives : read_parts setup read number (lines ++ rest ∷ []) ≡ Err (number + count)

stopped : (setup : Setup) (read : Reading) (number : ℕ) (lines : List (List ℕ)) (rest : List ℕ) → taken_all setup read lines ≡ None
    → Stopped setup read number lines rest
stopped setup read number [] rest e = absurd cc
stopped setup read number (line ∷ lines) rest e = by (λ next h. stopped setup next (number + 1) lines rest h) (taken setup read line) refl e
  where
    by : ((next : Reading) → taken_all setup next lines ≡ None → Stopped setup next (number + 1) lines rest) → (o : Option Reading) → taken setup read line ≡ o
        → (o >>= λ next. taken_all setup next lines) ≡ None → Stopped setup read number (line ∷ lines) rest
    by later None is h = record {
      count = 0;
      less = omega arith;
      mid = read;
      before = refl;
      here = bind_none (taken setup read line) _ is;
      gives = step setup read number line (lines ++ rest ∷ []) (some_parts lines rest) ∙
          ap (λ (o : Option Reading). next_or_refused number o (λ n. read_parts setup n (number + 1) (lines ++ rest ∷ []))) is
          ∙ ap Err (omega arith);
    }
    by later (Some next) is h =
        let s = later next h in
        let more : suc s.count + 1 ≡ suc (s.count + 1) = omega arith in
        record {
          count = suc s.count;
          less = omega (arith, s.less);
          mid = s.mid;
          before = bind_some (taken setup read line) next _ _ is s.before;
          here = ap (λ (n : ℕ). taken_all setup read (take n (line ∷ lines))) more ∙ bind_some (taken setup read line) next _ _ is s.here;
          gives = step setup read number line (lines ++ rest ∷ []) (some_parts lines rest) ∙
              ap (λ (o : Option Reading). next_or_refused number o (λ n. read_parts setup n (number + 1) (lines ++ rest ∷ []))) is
              ∙ s.gives ∙ ap Err (omega arith);
        }

-- ---- a log is read as itself

-- the log of parts whose first one is the header
pub behind_header : (setup : Setup) (parts : List (List ℕ)) → 0 < length parts → log_of_parts setup (header_line setup ∷ parts) ≡ read_parts setup nothing 2
    parts
unfolding log_of_parts
behind_header setup [] some = absurd (omega arith)
behind_header setup (part ∷ parts) some = cond-true _ _ _ (bytes_eq-same (header_line setup))

pub other_header : (setup : Setup) (line : List ℕ) (parts : List (List ℕ)) → bytes_eq line (header_line setup) ≡ false → log_of_parts setup (line ∷ parts) ≡
    Err 1
unfolding log_of_parts
other_header setup line [] other = refl
other_header setup line (part ∷ parts) other = cond-false _ _ _ other

-- nothing is no log
pub alone : (setup : Setup) (rest : List ℕ) → log_of_parts setup (rest ∷ []) ≡ Err 1
unfolding log_of_parts
alone setup rest = refl

pub reads-itself : (setup : Setup) (log : Log) → Small setup → IsLog setup log → log_of setup (text_of_log setup log) ≡ Ok log
reads-itself setup log small is =
    let later = lines_from 0 ([] ∷ log.turns) log.digests in
    ap (log_of_parts setup) (parts-ended (log_lines setup log) (inner-log setup log small is))
    ∙ behind_header setup (later ++ [] ∷ []) (some_parts later [])
    ∙ all-read setup nothing (between ([] ∷ log.turns) log.digests) 2 later [] (log-taken setup log small is)
    ∙ ap (or_refused (2 + length later)) (log_in-log setup log is)

-- ---- what the answer says

-- the log is the one that the bytes are, or the line is the refused one
abbrev pub Says : Setup → List ℕ → Result Log ℕ → Type 0
Says setup bytes (Ok log) = IsLog setup log × (bytes ≡ text_of_log setup log)
Says setup bytes (Err line) = IsRefusedAt setup bytes line

-- the same of lines, where the bytes are known to be the text of no log
record Refuses (setup : Setup) (lines : List (List ℕ)) (line : ℕ) : Type 0 where
  counted : (1 ≤ line) × (line ≤ length lines + 1)
  begins : BeginsLog setup (take (line - 1) lines)
  most : (count : ℕ) → count ≤ length lines → BeginsLog setup (take count lines) → count < line

-- some log begins
begins-any : (setup : Setup) → BeginsLog setup []
begins-any setup = let b = begins-read setup nothing [] (spells-nothing setup) in
    record { log = b.log; is_log = b.is_log; others = log_lines setup b.log; begins = refl }

heads : {X : Type 0} (x y : X) (xs ys : List X) → x ∷ xs ≡ y ∷ ys → (x ≡ y) × (xs ≡ ys)
heads x y xs ys e = (cc, cc)

refuses-header : (setup : Setup) (lines : List (List ℕ)) → ((line : List ℕ) (more : List (List ℕ)) → lines ≡ line ∷ more → bytes_eq line (header_line setup) ≡
    false) → Refuses setup lines 1
refuses-header setup lines other = record {
  counted = (omega arith, omega arith);
  begins = begins-any setup;
  most = λ count few b. by lines other count few b;
}
  where
    by : (lines : List (List ℕ)) → ((line : List ℕ) (more : List (List ℕ)) → lines ≡ line ∷ more → bytes_eq line (header_line setup) ≡ false) → (count : ℕ)
        → count ≤ length lines → BeginsLog setup (take count lines) → count < 1
    by lines other zero few b = omega arith
    by [] other (suc count) few b = absurd (omega arith)
    by (line ∷ lines) other (suc count) few b =
        let h = heads (header_line setup) line (lines_from 0 ([] ∷ b.log.turns) b.log.digests) (take count lines ++ b.others) b.begins in
        absurd (false≢true (sym (other line lines refl) ∙ (bytes_eq-Decides line (header_line setup)).1 (sym h.0)))

-- the first lines of a log, behind the header, are taken
begun-taken : (setup : Setup) (lines : List (List ℕ)) (count : ℕ) → Small setup → BeginsLog setup (header_line setup ∷ take count lines) → (less : ℕ)
    → less ≤ count → Front setup nothing (take less lines)
begun-taken setup lines count small b less few =
    let h = heads (header_line setup) (header_line setup) (lines_from 0 ([] ∷ b.log.turns) b.log.digests) (take count lines ++ b.others) b.begins in
    let f = front setup nothing (between ([] ∷ b.log.turns) b.log.digests) (take count lines) b.others (ap (taken_all setup nothing) (sym h.1) ∙
    log-taken setup b.log small b.is_log) in
    let cut : take count lines ≡ take less lines ++ drop less (take count lines)
    = sym (take-append-drop less (take count lines)) ∙ ap (λ (ls : List (List ℕ)). ls ++ drop less (take count lines)) (take-take less count lines few) in
    front setup nothing f.mid (take less lines) (drop less (take count lines)) (ap (taken_all setup nothing) (sym cut) ∙ f.taken_are)

refuses-stopped : (setup : Setup) (lines : List (List ℕ)) (rest : List ℕ) → Small setup → (s : Stopped setup nothing 2 lines rest)
    → Refuses setup (header_line setup ∷ lines) (2 + s.count)
refuses-stopped setup lines rest small s = record {
  counted = (omega arith, omega (arith, s.less));
  begins = subst (BeginsLog setup) (sym less)
      (begins-read setup s.mid (take s.count lines) (spells-all setup nothing s.mid [] (take s.count lines) (spells-nothing setup) s.before));
  most = λ count few b. by count b;
}
  where
    less : take (2 + s.count - 1) (header_line setup ∷ lines) ≡ header_line setup ∷ take s.count lines
    less = let e : 2 + s.count - 1 ≡ suc s.count = omega arith in ap (λ (n : ℕ). take n (header_line setup ∷ lines)) e

    apart : (o : Option Reading) (r : Reading) → o ≡ None → o ≡ Some r → ⊥
    apart o r e h = cc

    within : (count : ℕ) → BeginsLog setup (header_line setup ∷ take count lines) → suc count < 2 + s.count
    within count b = elim (cases_lt count (s.count + 1)) [
      | inl below ↦ omega arith
      | inr above ↦ let f = begun-taken setup lines count small b (s.count + 1) above in
          absurd (apart (taken_all setup nothing (take (s.count + 1) lines)) f.mid s.here f.taken_are)
    ]

    by : (count : ℕ) → BeginsLog setup (take count (header_line setup ∷ lines)) → count < 2 + s.count
    by zero b = omega arith
    by (suc count) b = within count b

refuses-end : (setup : Setup) (lines : List (List ℕ)) (last : Reading) → taken_all setup nothing lines ≡ Some last → Refuses setup (header_line setup ∷ lines)
    (2 + length lines)
refuses-end setup lines last e = record {
  counted = (omega arith, omega arith);
  begins = subst (BeginsLog setup) (sym whole) (begins-read setup last lines (spells-all setup nothing last [] lines (spells-nothing setup) e));
  most = λ count few b. omega (arith, few);
}
  where
    whole : take (2 + length lines - 1) (header_line setup ∷ lines) ≡ header_line setup ∷ lines
    whole = let e : 2 + length lines - 1 ≡ suc (length lines) = omega arith in ap (λ (n : ℕ). take n (header_line setup ∷ lines)) e ∙
        ap (λ (ls : List (List ℕ)). header_line setup ∷ ls) (take_all (length lines) lines (omega arith))

-- what is said of bytes whose lines are refused
refused-bytes : (setup : Setup) (bytes : List ℕ) (lines : List (List ℕ)) (line : ℕ) → Small setup → whole_lines bytes ≡ lines → log_of setup bytes ≡ Err line
    → Refuses setup lines line → IsRefusedAt setup bytes line
refused-bytes setup bytes lines line small whole e r =
    let f : Refuses setup (whole_lines bytes) line = subst (λ (ls : List (List ℕ)). Refuses setup ls line) (sym whole) r in
    record {
      no_log = λ log is same. apart (log_of setup bytes) log e (ap (log_of setup) same ∙ reads-itself setup log small is);
      counted = f.counted;
      begins = f.begins;
      most = f.most;
    }
  where
    apart : (o : Result Log ℕ) (log : Log) → o ≡ Err line → o ≡ Ok log → ⊥
    apart o log e h = cc

-- what is said of the last reading
says-last : (setup : Setup) (bytes : List ℕ) (lines : List (List ℕ)) (rest : List ℕ) (last : Reading) → Small setup
    → parts_of bytes ≡ (header_line setup ∷ lines) ++ rest ∷ [] → taken_all setup nothing lines ≡ Some last
    → log_of setup bytes ≡ last_of last (2 + length lines) rest → Says setup bytes (log_of setup bytes)
says-last setup bytes lines rest last small parts all e = by (length rest == 0) (log_in last) refl refl (log_of setup bytes) refl e
  where
    whole : whole_lines bytes ≡ header_line setup ∷ lines
    whole = whole-is bytes (header_line setup ∷ lines) rest parts

    refused : log_of setup bytes ≡ Err (2 + length lines) → IsRefusedAt setup bytes (2 + length lines)
    refused h = refused-bytes setup bytes (header_line setup ∷ lines) (2 + length lines) small whole h (refuses-end setup lines last all)

    empty : (text : List ℕ) → length text ≡ 0 → text ≡ []
    empty [] h = refl
    empty (c ∷ cs) h = absurd (omega arith)

    log_said : (log : Log) → (length rest == 0) ≡ true → log_in last ≡ Some log → IsLog setup log × (bytes ≡ text_of_log setup log)
    log_said log none is =
        let n = ends-log setup last lines log (spells-all setup nothing last [] lines (spells-nothing setup) all) is in
        let no_rest = empty rest (eqb-true (length rest) 0 none) in (
          n.is_log,
          sym (join_with_byte-slice_split 10 bytes) ∙ ap (join_with_byte 10) (parts ∙ ap (λ (r : List ℕ). (header_line setup ∷ lines) ++ r ∷ []) no_rest)
              ∙ joined-ended (header_line setup ∷ lines) ∙ ap (flat_map ended) (sym n.lines_are),
        )

    by : (none : Bool) (o : Option Log) → (length rest == 0) ≡ none → log_in last ≡ o → (r : Result Log ℕ) → log_of setup bytes ≡ r
        → r ≡ cond none (or_refused (2 + length lines) o) (Err (2 + length lines)) → Says setup bytes r
    by true (Some log) n is r same h = subst (Says setup bytes) (sym h) (log_said log n is)
    by true None n is r same h = subst (Says setup bytes) (sym h) (refused (same ∙ h))
    by false o n is r same h = subst (Says setup bytes) (sym h) (refused (same ∙ h))

pub says : (setup : Setup) (bytes : List ℕ) → Small setup → Says setup bytes (log_of setup bytes)
says setup bytes small =
    let l = lined (parts_of bytes) (omega (arith, length-slice_split (λ b. b == 10) bytes)) in
    by l.lines l.rest l.parts_are
  where
    err : (line : ℕ) → log_of setup bytes ≡ Err line → IsRefusedAt setup bytes line → Says setup bytes (log_of setup bytes)
    err line e is = subst (Says setup bytes) (sym e) is

    headed : (lines : List (List ℕ)) (rest : List ℕ) → parts_of bytes ≡ (header_line setup ∷ lines) ++ rest ∷ [] → (o : Option Reading)
        → taken_all setup nothing lines ≡ o → Says setup bytes (log_of setup bytes)
    headed lines rest parts (Some last) all =
        says-last setup bytes lines rest last small parts all
        (ap (log_of_parts setup) parts ∙ behind_header setup (lines ++ rest ∷ []) (some_parts lines rest) ∙ all-read setup nothing last 2 lines rest all)
    headed lines rest parts None all =
        let s = stopped setup nothing 2 lines rest all in
        let e : log_of setup bytes ≡ Err (2 + s.count) = ap (log_of_parts setup) parts ∙ behind_header setup (lines ++ rest ∷ []) (some_parts lines rest) ∙
        s.gives in
        err (2 + s.count) e (refused-bytes setup bytes (header_line setup ∷ lines) (2 + s.count) small (whole-is bytes (header_line setup ∷ lines) rest parts) e
        (refuses-stopped setup lines rest small s))

    first : (line : List ℕ) (lines : List (List ℕ)) (rest : List ℕ) → parts_of bytes ≡ (line ∷ lines) ++ rest ∷ [] → (same : Bool)
        → bytes_eq line (header_line setup) ≡ same → Says setup bytes (log_of setup bytes)
    first line lines rest parts true same =
        let is : line ≡ header_line setup = (bytes_eq-Decides line (header_line setup)).0 same in
        headed lines rest (parts ∙ ap (λ (l : List ℕ). (l ∷ lines) ++ rest ∷ []) is) (taken_all setup nothing lines) refl
    first line lines rest parts false other =
        let e : log_of setup bytes ≡ Err 1 = ap (log_of_parts setup) parts ∙ other_header setup line (lines ++ rest ∷ []) other in
        err 1 e (refused-bytes setup bytes (line ∷ lines) 1 small (whole-is bytes (line ∷ lines) rest parts) e
        (refuses-header setup (line ∷ lines) (λ l ls h. ap (λ (x : List ℕ). bytes_eq x (header_line setup)) (sym (heads line l lines ls h).0) ∙ other)))

    by : (lines : List (List ℕ)) (rest : List ℕ) → parts_of bytes ≡ lines ++ rest ∷ [] → Says setup bytes (log_of setup bytes)
    by [] rest parts =
        let e : log_of setup bytes ≡ Err 1 = ap (log_of_parts setup) parts ∙ alone setup rest in
        err 1 e (refused-bytes setup bytes [] 1 small (whole-is bytes [] rest parts) e (refuses-header setup [] (λ l ls h. absurd cc)))
    by (line ∷ lines) rest parts = first line lines rest parts (bytes_eq line (header_line setup)) refl
