-- The bytes of the file were read, or they were not read to their end.
use Rattle.sim_top.{proofs.Counting.has_read, proofs.Counting.not_read, specs.Commands.HasRead}
use Rattle.sim_top.proofs.Common.{◌≡◌, Err, IsOfList, IsStepList, Result, rules, shelved, StepList, Stop, subst, sym}

pub returns-in_err-bytes-clause-read : Rattle.sim_top.proofs.inputs.read_steps.Goals.returns-in_err-bytes-clause-read
returns-in_err-bytes-clause-read g c =
    let is : c.from_residual.result ≡ Err c.in_err-bytes.field-0.0 = search rules in
    let before = shelved (g.S.Shelf.held c.args.shelf.now) (g.S.Shelf.counts c.args.shelf.now) in
    let now = shelved (g.S.Shelf.held c.read_bytes.new.shelf) (g.S.Shelf.counts c.read_bytes.new.shelf) in
    subst (λ (r : Result StepList Stop). HasRead r (IsStepList c.args.players) IsOfList c.args.name.now before now) (sym is)
    (not_read (IsStepList c.args.players) IsOfList tt tt tt tt c.args.name.now c.in_err-bytes.field-0.0 before now c.in_err-bytes.ensures.causes
    c.in_err-bytes.ensures.missing
    c.read_bytes.ensures.held)

pub returns-clause-read : Rattle.sim_top.proofs.inputs.read_steps.Goals.returns-clause-read
returns-clause-read g c =
    has_read (IsStepList c.args.players) IsOfList c.args.name.now c.in_ok-bytes.bytes.items c.steps_from.result _ _ c.steps_from.ensures.parsed
    c.in_ok-bytes.ensures.causes
    c.in_ok-bytes.ensures.tells c.in_ok-bytes.ensures.missing c.read_bytes.ensures.held
