-- Seven pieces, one behind the other.
use Rattle.sim_bytes.proofs.Ways.{first}

pub returns : Rattle.sim_codec.proofs.spelling.tell_sections.Goals.returns
returns g c =
    first g.K.ByteSink.holds _ _ _ _ _ _ c.in_ok-tell_section.ensures
    (first g.K.ByteSink.holds _ _ _ _ _ _ c.in_ok-tell_section-2.ensures
    (first g.K.ByteSink.holds _ _ _ _ _ _ c.in_ok-tell_section-3.ensures
    (first g.K.ByteSink.holds _ _ _ _ _ _ c.in_ok-tell_section-4.ensures
    (first g.K.ByteSink.holds _ _ _ _ _ _ c.in_ok-tell_section-5.ensures
    (first g.K.ByteSink.holds _ _ _ _ _ _ c.in_ok-tell_section-6.ensures c.tell_section-7.ensures)))))
