-- The look-up in what is left of the files is the look-up in all of them, since no file that was passed has the name.
use Rattle.{sim_store.specs.Held.file_in, sim_store.specs.Held.files_of, std.proofs.Common.length, std.proofs.Common.◌≡◌}

abbrev pub invariant-loop-rest : Rattle.sim_store.proofs.held.find.Given.invariant-loop-rest
invariant-loop-rest l = file_in (files_of l.rest) l.name ≡ file_in (files_of l.files) l.name

abbrev pub decreases-loop-rest : Rattle.sim_store.proofs.held.find.Given.decreases-loop-rest
decreases-loop-rest l = length l.rest
