-- The frame of the message goes behind the others.
use Rattle.sim_pipes.proofs.{Common.IsUpFrame, Common.subst, Common.sym, Frames.pushed}

pub returns : Rattle.sim_pipes.proofs.sending.send_up.Goals.returns
returns c = pushed IsUpFrame c.push.result c.args.pipe.now c.push.new.self c.from_items.result c.args.up.now c.push.ensures.ok
    (subst (λ f. IsUpFrame f c.args.up.now) (sym c.from_items.ensures) c.in_ok-frame.ensures)
