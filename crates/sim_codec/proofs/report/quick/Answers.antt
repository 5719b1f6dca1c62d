-- The hasher holds what it was told.
use Rattle.sim_codec.proofs.Common.{[], quick}

pub returns : Rattle.sim_codec.proofs.report.quick.Goals.returns
unfolding quick
returns c = c.finalize.ensures _ (c.in-Ok.ensures [] [] c.new-digesting.ensures)
