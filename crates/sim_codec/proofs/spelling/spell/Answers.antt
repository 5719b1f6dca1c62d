-- The list holds what it was told.
use Rattle.sim_codec.proofs.Common.{[]}

pub returns : Rattle.sim_codec.proofs.spelling.spell.Goals.returns
returns c = c.in_ok-tell_state.ensures [] [] c.new-out.ensures.items
