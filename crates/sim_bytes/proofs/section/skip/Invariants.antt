-- What is still to be passed over, from where the reader is, is what was to be passed over at first.
use Rattle.{sim_bytes.specs.Walking.skipped, std.proofs.Common.◌-◌, std.proofs.Common.◌≡◌}

abbrev pub invariant-loop : Rattle.sim_bytes.proofs.section.skip.Given.invariant-loop
invariant-loop g l = skipped g.R.RowForm.row_at (l.count - l.counter) l.from ≡ skipped g.R.RowForm.row_at l.count l.fn.from
