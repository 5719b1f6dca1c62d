-- The rows that were passed are copied.
use Rattle.sim_client.proofs.Common.{◌≡◌, take}

abbrev pub invariant-rows : Rattle.sim_client.proofs.digests.copy_rows.Given.invariant-rows
invariant-rows l = l.copied.items ≡ take l.row-index l.rows
