-- As many were found as the rows so far have.
use Rattle.std.{proofs.Common.◌≡◌, proofs.Common.◌≤◌, proofs.Common.length, proofs.Common.take, specs.List.filter_map}

abbrev pub invariant-loop-row : Rattle.sim_bytes.proofs.section.count.Given.invariant-loop-row
invariant-loop-row g l = record { found : l.found ≡ length (filter_map g.R.RowForm.in_row (take l.row-index l.rows)); few : l.found ≤ l.row-index }
