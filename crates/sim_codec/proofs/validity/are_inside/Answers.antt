-- One point more passes, or the answer is no.
use Rattle.sim_codec.proofs.{Checked.all_seen, Checked.one_more, Common.refl, Common.IsInside}

pub loop-point-preserved : Rattle.sim_codec.proofs.validity.are_inside.Goals.loop-point-preserved
loop-point-preserved c = one_more (IsInside c.args.setup.now) c.args.points.now c.loop-point.point-index c.point-item.result c.is_inside_setup.result
    c.loop-point-test.true c.point-item.is c.is_inside_setup.ensures c.if-not-is_inside_setup.false c.loop-point.invariant

pub returns : Rattle.sim_codec.proofs.validity.are_inside.Goals.returns
returns c = (λ _. all_seen (IsInside c.args.setup.now) c.args.points.now c.loop-point.point-index c.loop-point-test.false c.loop-point.invariant, λ _. refl)
