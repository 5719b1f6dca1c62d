-- The lines are read as their parts are.
use Rattle.sim_replay.proofs.Common.{◌∙◌, ◌≡◌, ap, arith, cond-false, cond-true, Err, Log, log_in, LogFault, Meets, None, nothing, Option, or_refused, parts_of}
use Rattle.sim_replay.proofs.{Common.read_parts, Common.refl, Common.Result, Common.Some, Common.subst, Common.sym, Common.ℕ, Parts.read_line, Parts.read_rest}
use Rattle.{sim_replay.proofs.Parts.refused_meets, sim_replay.proofs.Whole.last_of, sim_replay.specs.Meets.Tells, std.specs.Option.ok_or}
use Rattle.sim_replay.proofs.read.lines_of.Goals as goal

log_meets : (found : Option Log) (fault : LogFault) (number : ℕ) → Tells fault number → Meets (ok_or found fault) (or_refused number found)
log_meets (Some log) fault number tells = refl
log_meets None fault number tells = refused_meets fault number (Err number) tells refl

pub returns-in-None : goal.returns-in-None
returns-in-None c =
    let line = read_line c.args.setup.now c.loop-line.read c.loop-line.number c.loop-line.rest.now c.in-Some.line.now c.in-Some.more.now c.in-Some.ensures
    None (sym c.in-None.is ∙ c.in_ok-next.ensures) in
    refused_meets c.refused.result c.loop-line.number _ c.refused.ensures.tells (sym c.loop-line.invariant.same ∙ line)

pub loop-line-preserved : goal.loop-line-preserved
loop-line-preserved c =
    let line = read_line c.args.setup.now c.loop-line.read c.loop-line.number c.loop-line.rest.now c.in-Some.line.now c.in-Some.more.now c.in-Some.ensures
    (Some c.in-Some-2.next) (sym c.in-Some-2.is ∙ c.in_ok-next.ensures) in
    record { same = sym line ∙ c.loop-line.invariant.same; counted = omega (arith, c.in-Some.ensures.1, c.loop-line.invariant.counted) }

pub returns-then-not-is_empty : goal.returns-then-not-is_empty
returns-then-not-is_empty c =
    let rest = read_rest c.args.setup.now c.loop-line.read c.loop-line.number c.loop-line.rest.now c.in_default.ensures in
    refused_meets c.refused-then-not-is_empty.result c.loop-line.number _ c.refused-then-not-is_empty.ensures.tells
    (sym c.loop-line.invariant.same ∙ rest ∙ cond-false _ _ _ (sym c.is_empty.ensures ∙ c.if-not-is_empty.true))

pub returns : goal.returns
returns c =
    let rest = read_rest c.args.setup.now c.loop-line.read c.loop-line.number c.loop-line.rest.now c.in_default.ensures in
    let log : last_of c.loop-line.read c.loop-line.number c.loop-line.rest.now ≡ or_refused c.loop-line.number (log_in c.loop-line.read)
    = cond-true _ _ _ (sym c.is_empty.ensures ∙ c.if-not-is_empty.false) in
    let wanted = ap (or_refused c.loop-line.number) c.into_log.ensures ∙ sym log ∙ sym rest ∙ c.loop-line.invariant.same in
    subst (λ (r : Result Log LogFault). Meets r (read_parts c.args.setup.now nothing 2 (parts_of c.args.bytes.now))) (sym c.ok_or.ensures.value)
    (subst (Meets (ok_or c.into_log.result c.refused-2.result)) wanted (log_meets c.into_log.result c.refused-2.result c.loop-line.number c.refused-2.ensures.tells))
