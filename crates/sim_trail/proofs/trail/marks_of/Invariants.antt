use Rattle.{sim_trail.specs.Shifts.mark_of, std.proofs.Common.map, std.proofs.Common.take, std.proofs.Common.◌≡◌}

abbrev pub invariant-loop-row : Rattle.sim_trail.proofs.trail.marks_of.Given.invariant-loop-row
invariant-loop-row l = l.marks.items ≡ map mark_of (take l.row-index l.rows)
