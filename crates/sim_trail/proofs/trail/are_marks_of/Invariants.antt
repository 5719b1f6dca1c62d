use Rattle.{sim_trail.specs.Shifts.mark_of, std.proofs.Common.map, std.proofs.Common.take, std.proofs.Common.◌≡◌}

abbrev pub invariant-loop-at : Rattle.sim_trail.proofs.trail.are_marks_of.Given.invariant-loop-at
invariant-loop-at l = take l.at l.marks ≡ map mark_of (take l.at l.rows)
