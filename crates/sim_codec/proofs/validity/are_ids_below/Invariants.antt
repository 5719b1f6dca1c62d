-- The rows so far passed.
use Rattle.sim_codec.proofs.Common.{◌<◌, ◌≤◌, take, All}

abbrev pub invariant-loop-row : Rattle.sim_codec.proofs.validity.are_ids_below.Given.invariant-loop-row
invariant-loop-row l = All (λ row. (2 ≤ row.id) × (row.id < l.next)) (take l.row-index l.rows)
