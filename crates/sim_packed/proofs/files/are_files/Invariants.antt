-- The files so far are read.
use Rattle.{sim_packed.proofs.Unpacking.IsReadTo, std.proofs.Common.length}

abbrev pub invariant-loop-left : Rattle.sim_packed.proofs.files.are_files.Given.invariant-loop-left
invariant-loop-left l = IsReadTo l.fn.bytes l.left

abbrev pub decreases-loop-left : Rattle.sim_packed.proofs.files.are_files.Given.decreases-loop-left
decreases-loop-left l = length l.left
