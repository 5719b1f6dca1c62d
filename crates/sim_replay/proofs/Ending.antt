-- What is read can be ended to a log, and the lines of a log are read as it.
use Rattle.sim_replay.proofs.Common.{add-zero, All, All-cons, All-drop, All-head, All-nil, All-push, All-rest, All-tail, and_from, and_parts, ap, append-nil}
use Rattle.sim_replay.proofs.Common.{append_assoc, AreOrders, arith, Attack, BeginsLog, Bool, Command, CommandFits, cond, cond-false, cond-true, count_by}
use Rattle.sim_replay.proofs.Common.{Delete, digest_in, digest_line, drop, drop-append_seam, eq-eqb, eqb-true, false, header_line, ids_in, is_by, IsDigest}
use Rattle.sim_replay.proofs.Common.{IsLog, IsOrder, le-leb, le-ltb, leb, leb-true, length, length-append, lines_from, List, Log, log_in, log_lines, lt-ltb}
use Rattle.sim_replay.proofs.Common.{ltb, ltb-false, ltb-true, map, map-append, may_have, None, nothing, Option, order_in, order_line, Place, PlayerCommand}
use Rattle.sim_replay.proofs.Common.{Reading, refl, replicate, Resign, Setup, slice_index, Some, Stop, subst, suc, sum_by-append, sym, taken, taken_by}
use Rattle.sim_replay.proofs.Common.{taken_order, taken_other, Train, true, turn_lines, Walk, with_digest, with_order, zero, zero-add, ℕ, [], ◌&&◌, ◌++◌, ◌+◌}
use Rattle.sim_replay.proofs.{Common.{◌<◌, ◌==◌, ◌>>=◌, ◌^◌, ◌∙◌, ◌∷◌, ◌≡◌, ◌≤◌}, Cuts.{bind_some, bound, passed}}
use Rattle.sim_replay.proofs.PrintedLines.{digest_in-line, digest_in-order, digest_in-taken, order_in-line, order_in-taken}

-- What is read of lines: it spells them, it can be ended to a log, and the lines of a log are read as it.

-- ---- the lines of turns

pub lines_from-push : (turn : ℕ) (turns : List (List PlayerCommand)) (digests : List (List ℕ)) (orders : List PlayerCommand) (digest : List ℕ)
    → length turns ≡ length digests
    → lines_from turn (turns ++ orders ∷ []) (digests ++ digest ∷ []) ≡ lines_from turn turns digests ++ turn_lines (turn + length digests) orders digest
lines_from-push turn [] [] orders digest same = append-nil (turn_lines turn orders digest) ∙ ap (λ (t : ℕ). turn_lines t orders digest) (sym (add-zero turn))
lines_from-push turn [] (d ∷ ds) orders digest same = absurd (omega arith)
lines_from-push turn (o ∷ os) [] orders digest same = absurd (omega arith)
lines_from-push turn (o ∷ os) (d ∷ ds) orders digest same =
    let place : (turn + 1) + length ds ≡ turn + length (d ∷ ds) = omega arith in
    ap (λ (ls : List (List ℕ)). turn_lines turn o d ++ ls) (lines_from-push (turn + 1) os ds orders digest (omega arith) ∙
    ap (λ (t : ℕ). lines_from (turn + 1) os ds ++ turn_lines t orders digest) place)
    ∙ sym (append_assoc (turn_lines turn o d) (lines_from (turn + 1) os ds) (turn_lines (turn + length (d ∷ ds)) orders digest))

-- ---- what is read spells its lines

-- what is read of these lines behind the first one
pub record Spells (setup : Setup) (read : Reading) (lines : List (List ℕ)) : Type 0 where
  pub lines_are : lines ≡ lines_from 0 read.turns read.digests ++ map (order_line (length read.digests)) read.orders
  pub paired : length read.turns ≡ length read.digests
  pub turns : All (AreOrders setup) read.turns
  pub start : length read.digests ≡ 0 → read.orders ≡ []
  pub first : 0 < length read.digests → read.turns ≡ [] ∷ drop 1 read.turns
  pub few : length read.digests ≤ setup.turns + 1
  pub room : 0 < length read.orders → length read.digests ≤ setup.turns
  pub digests : All IsDigest read.digests
  pub orders : AreOrders setup read.orders

no_orders : (setup : Setup) → AreOrders setup []
no_orders setup = record { each = All-nil (IsOrder setup); few = λ player. omega arith }

pub spells-nothing : (setup : Setup) → Spells setup nothing []
spells-nothing setup = record {
  lines_are = refl;
  paired = refl;
  turns = All-nil (AreOrders setup);
  start = λ h. refl;
  first = λ h. absurd (omega arith);
  few = omega arith;
  room = λ h. absurd (omega arith);
  digests = All-nil IsDigest;
  orders = no_orders setup;
}

-- the turns so far and one more begin with an empty one
first-push : (turns : List (List PlayerCommand)) (orders : List PlayerCommand) (count : ℕ) → length turns ≡ count → (count ≡ 0 → orders ≡ [])
    → (0 < count → turns ≡ [] ∷ drop 1 turns) → turns ++ orders ∷ [] ≡ [] ∷ drop 1 (turns ++ orders ∷ [])
first-push [] orders count same start first = ap (λ (o : List PlayerCommand). o ∷ []) (start (omega arith))
first-push (o ∷ os) orders count same start first =
    let e : o ≡ [] = let h = first (omega arith) in cc in
    ap (λ (p : List PlayerCommand). p ∷ (os ++ orders ∷ [])) e

pub spells-digest : (setup : Setup) (read : Reading) (lines : List (List ℕ)) (digest : List ℕ) → Spells setup read lines → length read.digests ≤ setup.turns
    → IsDigest digest
    → Spells setup (with_digest read digest) (lines ++ digest_line (length read.digests) digest ∷ [])
spells-digest setup read lines digest s below is =
    let end = digest_line (length read.digests) digest ∷ [] in
    let one_more : length (read.digests ++ digest ∷ []) ≡ length read.digests + 1 = length-append read.digests (digest ∷ []) in
    record {
      lines_are =
          ap (λ (ls : List (List ℕ)). ls ++ end) s.lines_are ∙ append_assoc (lines_from 0 read.turns read.digests)
          (map (order_line (length read.digests)) read.orders) end
          ∙ ap (λ (t : ℕ). lines_from 0 read.turns read.digests ++ turn_lines t read.orders digest) (sym (zero-add (length read.digests)))
          ∙ sym (lines_from-push 0 read.turns read.digests read.orders digest s.paired) ∙
          sym (append-nil (lines_from 0 (read.turns ++ read.orders ∷ []) (read.digests ++ digest ∷ [])));
      paired = length-append read.turns (read.orders ∷ []) ∙ omega (arith, s.paired, one_more);
      turns = All-push (AreOrders setup) read.turns read.orders s.turns s.orders;
      start = λ h. absurd (omega (arith, one_more));
      first = λ h. first-push read.turns read.orders (length read.digests) s.paired s.start s.first;
      few = omega (arith, one_more);
      room = λ h. absurd (omega arith);
      digests = All-push IsDigest read.digests digest s.digests is;
      orders = no_orders setup;
    }

-- ---- one command more

count-push : (player : ℕ) (orders : List PlayerCommand) (order : PlayerCommand) → count_by (is_by player) (orders ++ order ∷ []) ≡ count_by (is_by player)
    orders + cond (is_by player order) 1 0
count-push player orders order = sum_by-append (λ (o : PlayerCommand). cond (is_by player o) 1 0) orders (order ∷ []) ∙ omega arith

-- a turn may have the command
pub record MayHave (setup : Setup) (orders : List PlayerCommand) (order : PlayerCommand) : Type 0 where
  pub least : 1 ≤ order.player
  pub most : order.player ≤ setup.players
  pub ids : ids_in order.command ≤ 256
  pub room : count_by (is_by order.player) orders < 64

-- a command that fits has few ids
pub few_ids : (command : Command) → CommandFits command → ids_in command ≤ 256
few_ids (Walk ids to) fits = fits.0.few
few_ids (Stop ids) fits = fits.few
few_ids (Attack ids target) fits = fits.0.few
few_ids (Delete ids) fits = fits.few
few_ids (Place template at) fits = omega arith
few_ids (Train building template) fits = omega arith
few_ids Resign fits = omega arith

may_have-says : (setup : Setup) (orders : List PlayerCommand) (order : PlayerCommand) → may_have setup orders order ≡ true → MayHave setup orders order
unfolding may_have
may_have-says setup orders order e =
    let p = and_parts (leb 1 order.player && leb order.player setup.players && leb (ids_in order.command) 256) (ltb (count_by (is_by order.player) orders) 64)
    e in
    let q = and_parts (leb 1 order.player && leb order.player setup.players) (leb (ids_in order.command) 256) p.0 in
    let r = and_parts (leb 1 order.player) (leb order.player setup.players) q.0 in
    record {
      least = leb-true 1 order.player r.0;
      most = leb-true order.player setup.players r.1;
      ids = leb-true (ids_in order.command) 256 q.1;
      room = ltb-true (count_by (is_by order.player) orders) 64 p.1;
    }

pub may_have-from : (setup : Setup) (orders : List PlayerCommand) (order : PlayerCommand) → MayHave setup orders order → may_have setup orders order ≡ true
unfolding may_have
may_have-from setup orders order h =
    and_from _ _ (and_from _ _ (and_from _ _ (le-leb 1 order.player h.least) (le-leb order.player setup.players h.most))
    (le-leb (ids_in order.command) 256 h.ids)) (lt-ltb (count_by (is_by order.player) orders) 64 h.room)

orders-push : (setup : Setup) (orders : List PlayerCommand) (order : PlayerCommand) → AreOrders setup orders → MayHave setup orders order
    → CommandFits order.command → AreOrders setup (orders ++ order ∷ [])
orders-push setup orders order are may fits = record {
  each = All-push (IsOrder setup) orders order are.each (record { player = (may.least, may.most); fits = fits });
  few = λ player. by player (order.player == player) refl;
}
  where
    by : (player : ℕ) (b : Bool) → (order.player == player) ≡ b → count_by (is_by player) (orders ++ order ∷ []) ≤ 64
    by player true e =
        let same : order.player ≡ player = eqb-true order.player player e in
        let room : count_by (is_by player) orders < 64 = subst (λ (p : ℕ). count_by (is_by p) orders < 64) same may.room in
        omega (arith, count-push player orders order ∙ ap (λ (b : Bool). count_by (is_by player) orders + cond b 1 0) e, room)
    by player false e = omega (arith, count-push player orders order ∙ ap (λ (b : Bool). count_by (is_by player) orders + cond b 1 0) e, are.few player)

pub spells-order : (setup : Setup) (read : Reading) (lines : List (List ℕ)) (order : PlayerCommand) → Spells setup read lines
    → length read.digests ≤ setup.turns → 0 < length read.digests
    → AreOrders setup (read.orders ++ order ∷ []) → Spells setup (with_order read order) (lines ++ order_line (length read.digests) order ∷ [])
spells-order setup read lines order s below some are =
    let line = order_line (length read.digests) order in
    record {
      lines_are =
          ap (λ (ls : List (List ℕ)). ls ++ line ∷ []) s.lines_are ∙ append_assoc (lines_from 0 read.turns read.digests)
          (map (order_line (length read.digests)) read.orders) (line ∷ [])
          ∙ ap (λ (ls : List (List ℕ)). lines_from 0 read.turns read.digests ++ ls)
          (sym (map-append (order_line (length read.digests)) read.orders (order ∷ [])));
      paired = s.paired;
      turns = s.turns;
      start = λ h. absurd (omega arith);
      first = s.first;
      few = s.few;
      room = λ h. below;
      digests = s.digests;
      orders = are;
    }

-- ---- a line is taken

pub spells-taken : (setup : Setup) (read next : Reading) (lines : List (List ℕ)) (line : List ℕ) → Spells setup read lines → taken setup read line ≡ Some next
    → Spells setup next (lines ++ line ∷ [])
unfolding taken
spells-taken setup read next lines line s e = by (ltb setup.turns (length read.digests)) refl e
  where
    other : length read.digests ≤ setup.turns → taken_other setup read line ≡ Some next → Spells setup next (lines ++ line ∷ [])
    other below h =
        let b = bound (order_in (length read.digests) line) (taken_order setup read) next h in
        let order = b.x in
        let t = order_in-taken (length read.digests) line order b.first in
        let p = passed (ltb 0 (length read.digests) && may_have setup read.orders order) (Some (with_order read order)) next b.second in
        let q = and_parts (ltb 0 (length read.digests)) (may_have setup read.orders order) p.yes in
        let may = may_have-says setup read.orders order q.1 in
        let same : with_order read order ≡ next = let g = p.gives in cc in
        let are = orders-push setup read.orders order s.orders may (t.fits may.ids) in
        subst (λ (l : List ℕ). Spells setup next (lines ++ l ∷ [])) (sym t.line_is)
        (subst (λ (r : Reading). Spells setup r (lines ++ order_line (length read.digests) order ∷ [])) same
        (spells-order setup read lines order s below (ltb-true 0 (length read.digests) q.0) are))

    digested : (o : Option (List ℕ)) → digest_in (length read.digests) line ≡ o → length read.digests ≤ setup.turns → taken_by setup read line o ≡ Some next
        → Spells setup next (lines ++ line ∷ [])
    digested (Some digest) d below h =
        let same : with_digest read digest ≡ next = cc in
        let t = digest_in-taken (length read.digests) line digest d in
        subst (λ (l : List ℕ). Spells setup next (lines ++ l ∷ [])) (sym t.line_is)
        (subst (λ (r : Reading). Spells setup r (lines ++ digest_line (length read.digests) digest ∷ [])) same
        (spells-digest setup read lines digest s below t.is_digest))
    digested None d below h = other below h

    by : (b : Bool) → ltb setup.turns (length read.digests) ≡ b → cond b None (taken_by setup read line (digest_in (length read.digests) line)) ≡ Some next
        → Spells setup next (lines ++ line ∷ [])
    by true over h = cc
    by false over h = digested (digest_in (length read.digests) line) refl (ltb-false setup.turns (length read.digests) over) h

-- ---- the end

-- a log whose lines are these behind the first one
pub record Ends (setup : Setup) (lines : List (List ℕ)) (log : Log) : Type 0 where
  pub is_log : IsLog setup log
  pub lines_are : log_lines setup log ≡ header_line setup ∷ lines

-- the log of what is read
abbrev log_read : Reading → Log
log_read read = record { turns = drop 1 read.turns; digests = read.digests }

ends-read : (setup : Setup) (read : Reading) (lines : List (List ℕ)) → Spells setup read lines → 0 < length read.digests → read.orders ≡ []
    → Ends setup lines (log_read read)
ends-read setup read lines s some none =
    let first = s.first some in
    let more : length read.turns ≡ suc (length (drop 1 read.turns)) = ap length first in
    record {
      is_log = record {
        few = omega (arith, more, s.few, s.paired);
        one_more = omega (arith, more, s.paired);
        turns = All-rest (AreOrders setup) [] (drop 1 read.turns) read.turns first s.turns;
        digests = s.digests;
      };
      lines_are = ap (λ (ls : List (List ℕ)). header_line setup ∷ ls) (ap (λ (ts : List (List PlayerCommand)). lines_from 0 ts read.digests) (sym first)
          ∙ sym (append-nil (lines_from 0 read.turns read.digests))
          ∙ ap (λ (os : List PlayerCommand). lines_from 0 read.turns read.digests ++ map (order_line (length read.digests)) os) (sym none) ∙ sym s.lines_are);
    }

pub ends-log : (setup : Setup) (read : Reading) (lines : List (List ℕ)) (log : Log) → Spells setup read lines → log_in read ≡ Some log → Ends setup lines log
ends-log setup read lines log s e =
    let p = passed (ltb 0 (length read.digests) && (length read.orders == 0)) (Some (log_read read)) log e in
    let q = and_parts (ltb 0 (length read.digests)) (length read.orders == 0) p.yes in
    let same : log_read read ≡ log = let h = p.gives in cc in
    subst (Ends setup lines) same (ends-read setup read lines s (ltb-true 0 (length read.digests) q.0)
    (empty read.orders (eqb-true (length read.orders) 0 q.1)))
  where
    empty : (os : List PlayerCommand) → length os ≡ 0 → os ≡ []
    empty [] h = refl
    empty (o ∷ os) h = absurd (omega arith)

-- sixteen bytes are a digest
zeros-digest : IsDigest (replicate 16 0)
zeros-digest = record { long = refl; bytes = small 16 }
  where
    small : (n i : ℕ) → slice_index (replicate n 0) i < 256
    small zero i = omega arith
    small (suc n) zero = omega arith
    small (suc n) (suc i) = small n i

-- what is read may go on to some log
pub begins-read : (setup : Setup) (read : Reading) (lines : List (List ℕ)) → Spells setup read lines → BeginsLog setup (header_line setup ∷ lines)
begins-read setup read lines s = by read.orders read.digests refl refl
  where
    goes_on : length read.digests ≤ setup.turns → BeginsLog setup (header_line setup ∷ lines)
    goes_on below =
        let next = with_digest read (replicate 16 0) in
        let line = digest_line (length read.digests) (replicate 16 0) in
        let t = spells-digest setup read lines (replicate 16 0) s below zeros-digest in
        let e = ends-read setup next (lines ++ line ∷ []) t (omega (arith, length-append read.digests (replicate 16 0 ∷ []))) refl in
        record { log = log_read next; is_log = e.is_log; others = line ∷ []; begins = e.lines_are }

    by : (orders : List PlayerCommand) (digests : List (List ℕ)) → read.orders ≡ orders → read.digests ≡ digests → BeginsLog setup (header_line setup ∷ lines)
    by [] [] none empty = goes_on (omega (arith, ap length empty))
    by [] (d ∷ ds) none some =
        let e = ends-read setup read lines s (omega (arith, ap length some)) none in
        record { log = log_read read; is_log = e.is_log; others = []; begins = e.lines_are ∙ sym (append-nil (header_line setup ∷ lines)) }
    by (o ∷ os) digests some e = goes_on (s.room (omega (arith, ap length some)))

-- ---- lines taken one behind the other

-- what is read after these lines
abbrev pub taken_all : Setup → Reading → List (List ℕ) → Option Reading
taken_all setup read [] = Some read
taken_all setup read (line ∷ lines) = taken setup read line >>= λ next. taken_all setup next lines

chain : (setup : Setup) (read mid : Reading) (lines more : List (List ℕ)) (r : Option Reading) → taken_all setup read lines ≡ Some mid
    → taken_all setup mid more ≡ r → taken_all setup read (lines ++ more) ≡ r
chain setup read mid [] more r e h = let same : read ≡ mid = cc in ap (λ (x : Reading). taken_all setup x more) same ∙ h
chain setup read mid (line ∷ lines) more r e h =
    let b = bound (taken setup read line) _ mid e in
    bind_some (taken setup read line) b.x _ r b.first (chain setup b.x mid lines more r b.second h)

-- what is read after the first of these lines
pub record Front (setup : Setup) (read : Reading) (lines : List (List ℕ)) : Type 0 where
  pub mid : Reading
  pub taken_are : taken_all setup read lines ≡ Some mid

pub front : (setup : Setup) (read last : Reading) (lines more : List (List ℕ)) → taken_all setup read (lines ++ more) ≡ Some last → Front setup read lines
front setup read last [] more e = record { mid = read; taken_are = refl }
front setup read last (line ∷ lines) more e =
    let b = bound (taken setup read line) _ last e in
    let f = front setup b.x last lines more b.second in
    record { mid = f.mid; taken_are = bind_some (taken setup read line) b.x _ (Some f.mid) b.first f.taken_are }

pub spells-all : (setup : Setup) (read next : Reading) (lines more : List (List ℕ)) → Spells setup read lines → taken_all setup read more ≡ Some next
    → Spells setup next (lines ++ more)
spells-all setup read next lines [] s e =
    let same : read ≡ next = cc in
    rw append-nil (subst (λ (r : Reading). Spells setup r lines) same s)
spells-all setup read next lines (line ∷ more) s e =
    let b = bound (taken setup read line) _ next e in
    let t = spells-all setup b.x next (lines ++ line ∷ []) more (spells-taken setup read b.x lines line s b.first) b.second in
    rw (append_assoc lines (line ∷ []) more) at t

-- ---- the lines of a log are taken

-- the numbers of a match fit
pub record Small (setup : Setup) : Type 0 where
  pub players : setup.players < 2 ^ 8
  pub turns : setup.turns < 2 ^ 32

digest-taken : (setup : Setup) (read : Reading) (digest : List ℕ) → length read.digests ≤ setup.turns → IsDigest digest
    → taken setup read (digest_line (length read.digests) digest) ≡ Some (with_digest read digest)
unfolding taken
digest-taken setup read digest below is =
    let turn = length read.digests in
    cond-false _ _ _ (le-ltb setup.turns turn below) ∙ ap (taken_by setup read (digest_line turn digest)) (digest_in-line turn digest is)

order-taken : (setup : Setup) (read : Reading) (order : PlayerCommand) → Small setup → 0 < length read.digests → length read.digests ≤ setup.turns
    → MayHave setup read.orders order → CommandFits order.command
    → taken setup read (order_line (length read.digests) order) ≡ Some (with_order read order)
unfolding taken
order-taken setup read order small some below may fits =
    let turn = length read.digests in
    cond-false _ _ _ (le-ltb setup.turns turn below) ∙ ap (taken_by setup read (order_line turn order)) (digest_in-order turn turn order)
    ∙ bind_some (order_in turn (order_line turn order)) order _ _ (order_in-line turn order (omega (arith, small.players, may.most)) fits)
    (cond-true _ _ _ (and_from _ _ (lt-ltb 0 turn some) (may_have-from setup read.orders order may)))

-- how much a test counts for
abbrev one_if : Bool → ℕ
one_if b = cond b 1 0

-- a turn may have the next of its commands
may-next : (setup : Setup) (orders more : List PlayerCommand) (order : PlayerCommand) → AreOrders setup (orders ++ order ∷ more) → MayHave setup orders order
    × CommandFits order.command
may-next setup orders more order are =
    let behind : All (IsOrder setup) (order ∷ more) = subst (All (IsOrder setup)) (drop-append_seam orders (order ∷ more))
    (All-drop (IsOrder setup) (length orders) (orders ++ order ∷ more) are.each) in
    let is = All-head (IsOrder setup) order more behind in
    let one : one_if (is_by order.player order) ≡ 1 = ap one_if (eq-eqb order.player order.player refl) in
    let count = sum_by-append (λ (o : PlayerCommand). cond (is_by order.player o) 1 0) orders (order ∷ more) in
    let count_more = sum_by-append (λ (o : PlayerCommand). cond (is_by order.player o) 1 0) (order ∷ []) more in (
      record {
        least = is.player.0;
        most = is.player.1;
        ids = few_ids order.command is.fits;
        room = omega (arith, one, count, count_more, are.few order.player);
      },
      is.fits,
    )

orders-taken : (setup : Setup) (read : Reading) (orders : List PlayerCommand) → Small setup → 0 < length read.digests → length read.digests ≤ setup.turns
    → AreOrders setup (read.orders ++ orders)
    → taken_all setup read (map (order_line (length read.digests)) orders) ≡ Some (record read { orders = read.orders ++ orders })
orders-taken setup read [] small some below are = ap (λ (os : List PlayerCommand). Some (record read { orders = os })) (sym (append-nil read.orders))
orders-taken setup read (order ∷ orders) small some below are =
    let may = may-next setup read.orders orders order are in
    let same = append_assoc read.orders (order ∷ []) orders in
    bind_some _ (with_order read order) _ _ (order-taken setup read order small some below may.0 may.1)
    (orders-taken setup (with_order read order) orders small some below (subst (AreOrders setup) (sym same) are) ∙
    ap (λ (os : List PlayerCommand). Some (record read { orders = os })) same)

-- nothing of the next turn is read
abbrev pub between : List (List PlayerCommand) → List (List ℕ) → Reading
between turns digests = record { turns = turns; digests = digests; orders = [] }

turn-taken : (setup : Setup) (turns : List (List PlayerCommand)) (digests : List (List ℕ)) (orders : List PlayerCommand) (digest : List ℕ) → Small setup
    → length digests ≤ setup.turns → (length digests ≡ 0 → orders ≡ [])
    → AreOrders setup orders → IsDigest digest → taken_all setup (between turns digests) (turn_lines (length digests) orders digest) ≡ Some
    (between (turns ++ orders ∷ []) (digests ++ digest ∷ []))
turn-taken setup turns digests orders digest small below start are is =
    let read = between turns digests in
    let mid : Reading = record { turns = turns; digests = digests; orders = orders } in
    chain setup read mid (map (order_line (length digests)) orders) (digest_line (length digests) digest ∷ []) _ (all orders digests start are below)
    (bind_some _ (with_digest mid digest) _ _ (digest-taken setup mid digest below is) refl)
  where
    all : (os : List PlayerCommand) (ds : List (List ℕ)) → (length ds ≡ 0 → os ≡ []) → AreOrders setup os → length ds ≤ setup.turns
        → taken_all setup (between turns ds) (map (order_line (length ds)) os) ≡ Some (record { turns = turns; digests = ds; orders = os })
    all [] ds start are below = refl
    all (o ∷ os) [] start are below = let e = start refl in absurd cc
    all (o ∷ os) (d ∷ ds) start are below = orders-taken setup (between turns (d ∷ ds)) (o ∷ os) small (omega arith) below are

turns-taken : (setup : Setup) (turn : ℕ) (done turns : List (List PlayerCommand)) (seen digests : List (List ℕ)) → Small setup → length seen ≡ turn
    → length turns ≡ length digests → turn + length digests ≤ setup.turns + 1
    → (turn ≡ 0 → turns ≡ [] ∷ drop 1 turns) → All (AreOrders setup) turns → All IsDigest digests
    → taken_all setup (between done seen) (lines_from turn turns digests) ≡ Some (between (done ++ turns) (seen ++ digests))
turns-taken setup turn done [] seen [] small at same few start are is =
    ap (λ (ts : List (List PlayerCommand)). Some (between ts seen)) (sym (append-nil done)) ∙ ap (λ (ds : List (List ℕ)). Some (between (done ++ []) ds))
    (sym (append-nil seen))
turns-taken setup turn done [] seen (d ∷ ds) small at same few start are is = absurd (omega arith)
turns-taken setup turn done (o ∷ os) seen [] small at same few start are is = absurd (omega arith)
turns-taken setup turn done (o ∷ os) seen (d ∷ ds) small at same few start are is =
    let one : taken_all setup (between done seen) (turn_lines turn o d) ≡ Some (between (done ++ o ∷ []) (seen ++ d ∷ []))
    = subst (λ (t : ℕ). taken_all setup (between done seen) (turn_lines t o d) ≡ Some (between (done ++ o ∷ []) (seen ++ d ∷ []))) at
    (turn-taken setup done seen o d small (omega arith) (λ z. let h = start (omega arith) in cc) (All-head (AreOrders setup) o os are)
    (All-head IsDigest d ds is)) in
    let more = turns-taken setup (turn + 1) (done ++ o ∷ []) os (seen ++ d ∷ []) ds small (length-append seen (d ∷ []) ∙ omega arith) (omega arith)
    (omega arith) (λ z. absurd (omega arith)) (All-tail (AreOrders setup) o os are) (All-tail IsDigest d ds is) in
    chain setup (between done seen) (between (done ++ o ∷ []) (seen ++ d ∷ [])) (turn_lines turn o d) (lines_from (turn + 1) os ds) _ one
    (more ∙ ap (λ (ts : List (List PlayerCommand)). Some (between ts ((seen ++ d ∷ []) ++ ds))) (append_assoc done (o ∷ []) os) ∙
    ap (λ (xs : List (List ℕ)). Some (between (done ++ o ∷ os) xs)) (append_assoc seen (d ∷ []) ds))

pub log-taken : (setup : Setup) (log : Log) → Small setup → IsLog setup log → taken_all setup nothing (lines_from 0 ([] ∷ log.turns) log.digests) ≡ Some
    (between ([] ∷ log.turns) log.digests)
log-taken setup log small is =
    turns-taken setup 0 [] ([] ∷ log.turns) [] log.digests small refl (omega (arith, is.one_more)) (omega (arith, is.one_more, is.few)) (λ z. refl)
    (All-cons (AreOrders setup) [] log.turns (record { each = All-nil (IsOrder setup); few = λ player. omega arith }) is.turns) is.digests

pub log_in-log : (setup : Setup) (log : Log) → IsLog setup log → log_in (between ([] ∷ log.turns) log.digests) ≡ Some log
log_in-log setup log is = cond-true _ _ _ (and_from _ _ (lt-ltb 0 (length log.digests) (omega (arith, is.one_more))) refl)
