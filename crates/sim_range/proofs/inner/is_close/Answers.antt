-- No point of a bucket is further away than its furthest corner.
use Rattle.sim_range.proofs.{Common.arith, Planning.close_by}

pub returns : Rattle.sim_range.proofs.inner.is_close.Goals.returns
returns c is = close_by c.args.number c.args.near _ c.args.at.now c.far_end.ensures.far c.far_end-2.ensures.far (grind arith)
