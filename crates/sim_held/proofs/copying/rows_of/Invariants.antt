-- The rows so far.
use Rattle.sim_held.proofs.Common.{◌≡◌, take}

abbrev pub invariant-loop-row : Rattle.sim_held.proofs.copying.rows_of.Given.invariant-loop-row
invariant-loop-row l = l.copied.items ≡ take l.row-index l.rows
