-- The frame of the message goes behind the others.
use Rattle.sim_pipes.proofs.{Common.IsDownFrame, Common.subst, Common.sym, Frames.pushed}

pub returns : Rattle.sim_pipes.proofs.sending.send_down.Goals.returns
returns c = pushed IsDownFrame c.push.result c.args.pipe.now c.push.new.self c.from_items.result c.args.down.now c.push.ensures.ok
    (subst (λ f. IsDownFrame f c.args.down.now) (sym c.from_items.ensures) c.in_ok-frame.ensures)
