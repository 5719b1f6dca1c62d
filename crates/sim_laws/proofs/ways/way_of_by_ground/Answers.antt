-- The law is a lemma on two tests that agree.
use Rattle.sim_laws.proofs.Rounds.{way_of-same}

pub returns : Rattle.sim_laws.proofs.ways.way_of_by_ground.Goals.returns
returns c = way_of-same
