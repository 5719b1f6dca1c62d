-- The rows so far passed.
use Rattle.sim_codec.proofs.Common.{take, All, IsKnownRow}

abbrev pub invariant-loop-row : Rattle.sim_codec.proofs.validity.Ascending.are_known.Given.invariant-loop-row
invariant-loop-row l = All (IsKnownRow 1 l.setup l.self.rows.now) (take l.row-index l.self.rows.now)
