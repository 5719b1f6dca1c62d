-- There are as many rows as were announced.
use Rattle.sim_codec.proofs.{Common.arith, TakenRows.few_read}

pub invariant_of-result : Rattle.sim_codec.proofs.stored.stored_from.Goals.invariant_of-result
invariant_of-result c = omega (
  arith,
  few_read c.as_slice.result.now c.in_ok-count.count c.in_ok-count.walk c.in-Some.rows c.in-Some.ensures,
  c.if-count-gt-MAX_ROWS.false,
)
