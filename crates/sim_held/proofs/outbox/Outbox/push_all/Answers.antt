-- One frame more stands there.
use Rattle.sim_held.proofs.outbox.Outbox.push_all.Goals as goal
use Rattle.sim_held.proofs.{Common.{ap, append-nil, arith, frames_of, sym, take_all, up_frame, ◌++◌, ◌∙◌}, Waits.appended_more}

pub loop-up-init : goal.loop-up-init
loop-up-init c = sym (append-nil c.args.self.now)

pub loop-up-preserved : goal.loop-up-preserved
loop-up-preserved c =
    appended_more up_frame c.args.ups.now c.loop-up.up-index c.up-item.result c.args.self.now c.loop-up.self c.push.new.self
    (omega (arith, c.loop-up-test.true)) c.up-item.is c.loop-up.invariant c.in_ok-push.ensures

pub returns-clause-pushed : goal.returns-clause-pushed
returns-clause-pushed c = c.loop-up.invariant ∙
    ap (λ l. c.args.self.now ++ frames_of l) (take_all c.loop-up.up-index c.args.ups.now (omega (arith, c.loop-up-test.false)))
