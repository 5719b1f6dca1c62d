-- One line more stands behind the old bytes, or they are kept.
use Rattle.{sim_base.proofs.AppendedTexts.take-appended_more, sim_replay.proofs.{Common.{Err, Ok, Result}, Pushed.next_order}, std.specs.Prelude.OnErr}

on_err : {T E P : Type 0} (r : Result T E) → P → OnErr r P
on_err (Ok x) p = tt
on_err (Err e) p = p

pub returns-in_err-append_order-clause-err : Rattle.sim_replay.proofs.push.append_orders.Goals.returns-in_err-append_order-clause-err
returns-in_err-append_order-clause-err c = on_err c.from_residual.result
    (take-appended_more c.args.out.now.items _ c.loop-order.out.items c.append_order.new.out.items c.loop-order.invariant c.in_err-append_order.ensures.err)

pub loop-order-preserved : Rattle.sim_replay.proofs.push.append_orders.Goals.loop-order-preserved
loop-order-preserved c = next_order c.args.turn c.args.orders.now c.loop-order.order-index c.order-item.result c.args.out.now.items c.loop-order.out.items
    c.append_order.new.out.items c.loop-order-test.true c.order-item.is c.loop-order.invariant c.in_ok-append_order.ensures.ok
