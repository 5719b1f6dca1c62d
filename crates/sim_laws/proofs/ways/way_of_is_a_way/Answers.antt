-- The law is a lemma: the function answers a way.
use Rattle.sim_laws.proofs.Rounds.{way_of-is_way}

pub returns : Rattle.sim_laws.proofs.ways.way_of_is_a_way.Goals.returns
returns c = way_of-is_way
