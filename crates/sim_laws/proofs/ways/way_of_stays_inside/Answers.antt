-- The law is a lemma on the points of a way.
use Rattle.sim_laws.proofs.Commanding.{way_of-inside}

pub returns : Rattle.sim_laws.proofs.ways.way_of_stays_inside.Goals.returns
returns c = way_of-inside
