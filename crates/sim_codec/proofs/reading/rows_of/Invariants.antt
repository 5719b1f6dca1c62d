-- The rows so far and those that are left are all.
use Rattle.sim_codec.proofs.Common.{◌≡◌, ◌++◌, length}

abbrev pub invariant-rows : Rattle.sim_codec.proofs.reading.rows_of.Given.invariant-rows
invariant-rows l = l.rows.items ++ l.stored ≡ l.fn.stored

abbrev pub decreases-rows : Rattle.sim_codec.proofs.reading.rows_of.Given.decreases-rows
decreases-rows l = length l.stored
