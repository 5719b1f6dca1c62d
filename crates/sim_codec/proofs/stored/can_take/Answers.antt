-- One row more is taken, or the rows end there.
use Rattle.sim_codec.proofs.{Common.is_some, Common.rows_at, TakenRows.can_all, TakenRows.can_more, TakenRows.can_not}
use Rattle.sim_codec.proofs.stored.can_take.Goals as goal

pub returns-in-Err : goal.returns-in-Err
returns-in-Err c = can_not c.args.templates.now c.args.count c.loop.counter c.loop.walk (is_some (rows_at c.args.templates.now c.args.count c.args.walk))
    c.loop-test.true c.in-Err.ensures c.loop.invariant

pub loop-preserved : goal.loop-preserved
loop-preserved c = can_more c.args.templates.now c.args.count c.loop.counter c.loop.walk c.in-Ok.field-0 c.take_parts.new.walk
    (is_some (rows_at c.args.templates.now c.args.count c.args.walk)) c.loop-test.true c.in-Ok.ensures c.loop.invariant

pub returns : goal.returns
returns c = can_all c.args.templates.now c.args.count c.loop.counter c.loop.walk (is_some (rows_at c.args.templates.now c.args.count c.args.walk))
    c.loop-test.false c.loop.invariant
