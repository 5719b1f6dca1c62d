-- The head, the clock and the sections, one behind the other.
use Rattle.sim_codec.proofs.Told.{headed}

pub returns : Rattle.sim_codec.proofs.spelling.tell_state.Goals.returns
returns g c = headed g.K.ByteSink.holds _ _ _ _ _ _ _ _ _ c.in_ok-tell_head.ensures c.in_ok-tell_clock.ensures
    (rw c.as_slice.ensures at c.tell_sections.ensures)
