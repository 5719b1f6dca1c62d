-- A frame has its form, and is read back.
use Rattle.sim_wire.proofs.Hearing.{heard_as_framed}

pub returns : Rattle.sim_wire.proofs.laws.bytes_are_heard_as_framed.Goals.returns
returns c = heard_as_framed
