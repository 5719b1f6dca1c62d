-- What was told and what is left are the changes of all ids.
use Rattle.{sim_trail.proofs.Merging.Walks, sim_trail.specs.Shifts.end_of, std.proofs.Common.◌+◌, std.proofs.Common.max, std.proofs.Common.length}

abbrev pub invariant-ids : Rattle.sim_trail.proofs.merge.shifts_between.Given.invariant-ids
invariant-ids l = Walks (max (end_of l.fn.olds) (end_of l.fn.news)) l.fn.olds l.fn.news l.olds l.news l.shifts

abbrev pub decreases-ids : Rattle.sim_trail.proofs.merge.shifts_between.Given.decreases-ids
decreases-ids l = length l.olds + length l.news
