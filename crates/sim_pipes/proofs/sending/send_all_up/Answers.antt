-- One message more is sent.
use Rattle.{sim_pipes.proofs.Frames.framed_more, std.proofs.lemmas.List.take_all}
use Rattle.sim_pipes.proofs.Common.{◌++◌, length, take, ap, append-nil, AreFrames, arith, IsUpFrame, subst, sym}
use Rattle.sim_pipes.proofs.sending.send_all_up.Goals as goal

pub loop-up-init : goal.loop-up-init
loop-up-init c = λ before are. subst (AreFrames IsUpFrame c.args.pipe.now) (sym (append-nil before)) are

pub loop-up-preserved : goal.loop-up-preserved
loop-up-preserved c = λ before are.
    framed_more IsUpFrame c.send_up.new.pipe before c.args.ups.now c.loop-up.up-index c.up-item.result (omega (arith, c.loop-up-test.true)) c.up-item.is
    (c.in_ok-send_up.ensures (before ++ take c.loop-up.up-index c.args.ups.now) (c.loop-up.invariant before are))

pub returns-in_err-send_up-clause-none : goal.returns-in_err-send_up-clause-none
returns-in_err-send_up-clause-none c = λ none. absurd (omega (arith, c.loop-up-test.true, ap length none))

pub returns-clause-frames : goal.returns-clause-frames
returns-clause-frames c = λ before are. subst (AreFrames IsUpFrame c.loop-up.pipe)
    (ap (λ l. before ++ l) (take_all c.loop-up.up-index c.args.ups.now (omega (arith, c.loop-up-test.false)))) (c.loop-up.invariant before are)
