-- The law is a lemma on the number of points.
use Rattle.sim_laws.proofs.Commanding.{way_of-short}

pub returns : Rattle.sim_laws.proofs.ways.way_of_is_short.Goals.returns
returns c = way_of-short
