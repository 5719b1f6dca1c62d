-- The hasher holds what it was told.
use Rattle.sim_codec.proofs.Common.{[], digest}

pub returns : Rattle.sim_codec.proofs.spelling.digest.Goals.returns
unfolding digest
returns c = c.finalize.ensures _ (c.in-Ok.ensures [] [] c.new-digesting.ensures)
