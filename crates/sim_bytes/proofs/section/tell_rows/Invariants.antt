-- The rows so far were told.
use Rattle.{sim_bytes.specs.Telling.Tells, std.proofs.Common.take, std.specs.List.flat_map, std.specs.List.filter_map}

abbrev pub invariant-loop-row : Rattle.sim_bytes.proofs.section.tell_rows.Given.invariant-loop-row
invariant-loop-row g l = Tells g.K.ByteSink.holds l.fn.out l.out (flat_map g.R.RowForm.spelled (filter_map g.R.RowForm.in_row (take l.row-index l.rows)))
