-- Two pieces, one behind the other.
use Rattle.sim_bytes.proofs.Ways.{first}

pub returns : Rattle.sim_codec.proofs.report.tell_quick.Goals.returns
returns g c = first g.K.ByteSink.holds _ _ _ _ _ _ c.in_ok-tell_clock.ensures (rw c.as_slice.ensures at c.tell_section.ensures)
