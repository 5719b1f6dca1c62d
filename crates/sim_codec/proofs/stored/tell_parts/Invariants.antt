-- Whoever tells what is left has told all.
use Rattle.sim_codec.{proofs.Common.flat_map, proofs.Common.length, proofs.Common.Tells, specs.Taken.parts_in}

abbrev pub invariant-entities : Rattle.sim_codec.proofs.stored.tell_parts.Given.invariant-entities
invariant-entities g l =
    (last : _) → Tells g.K.ByteSink.holds l.out last (flat_map g.R.RowForm.spelled (parts_in g.R.PartForm.part_at l.version l.templates l.rest l.from))
    → Tells g.K.ByteSink.holds l.fn.out last (flat_map g.R.RowForm.spelled (parts_in g.R.PartForm.part_at l.version l.templates l.entities l.fn.from))

abbrev pub decreases-entities : Rattle.sim_codec.proofs.stored.tell_parts.Given.decreases-entities
decreases-entities g l = length l.rest
