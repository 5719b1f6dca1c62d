-- There are as many rows as are still to be taken.
use Rattle.sim_codec.proofs.{Common.ap, Common.arith, Common.length, TakenRows.length_read}

pub returns : Rattle.sim_codec.proofs.stored.StoredRows.left.Goals.returns
returns c = omega (arith, ap length c.self.view_is, length_read c.self.inside.templates.now c.self.inside.count c.self.inside.walk c.self.invariant)
