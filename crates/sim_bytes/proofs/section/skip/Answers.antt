-- One row more is passed over, or the rows end there.
use Rattle.sim_bytes.proofs.section.skip.Goals as goal
use Rattle.{sim_bytes.{proofs.Steps.{skip_done, skip_ends, skip_on}, specs.Walking.skipped}, std.proofs.lemmas.Result.err_from_is_err_and}

pub returns-in_err-take : goal.returns-in_err-take
returns-in_err-take g c =
    let p = err_from_is_err_and c.from_residual.result c.from_residual.ensures.1 in
    rw p.1 (skip_ends g.R.RowForm.row_at c.args.count c.loop.counter c.loop.from (skipped g.R.RowForm.row_at c.args.count c.args.from.now) c.loop-test.true
    c.in_err-take.ensures c.loop.invariant)

pub loop-preserved : goal.loop-preserved
loop-preserved g c = skip_on g.R.RowForm.row_at c.args.count c.loop.counter c.loop.from c.take.new.from c.in_ok-take.field-0
    (skipped g.R.RowForm.row_at c.args.count c.args.from.now) c.loop-test.true c.in_ok-take.ensures c.loop.invariant

pub returns : goal.returns
returns g c = skip_done g.R.RowForm.row_at c.args.count c.loop.counter c.loop.from (skipped g.R.RowForm.row_at c.args.count c.args.from.now) c.loop-test.false
    c.loop.invariant
