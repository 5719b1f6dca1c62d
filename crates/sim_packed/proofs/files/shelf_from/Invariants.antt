-- The shelf holds the files so far.
use Rattle.{sim_packed.proofs.Unpacking.IsUnpackedTo, std.proofs.Common.length}

abbrev pub invariant-loop-rest : Rattle.sim_packed.proofs.files.shelf_from.Given.invariant-loop-rest
invariant-loop-rest l = IsUnpackedTo l.fn.bytes l.rest l.shelf

abbrev pub decreases-loop-rest : Rattle.sim_packed.proofs.files.shelf_from.Given.decreases-loop-rest
decreases-loop-rest l = length l.rest
