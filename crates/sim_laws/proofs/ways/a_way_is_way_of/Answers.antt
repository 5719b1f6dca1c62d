-- The law is a lemma: a way is what the function answers.
use Rattle.sim_laws.proofs.Rounds.{way-is_way_of}

pub returns : Rattle.sim_laws.proofs.ways.a_way_is_way_of.Goals.returns
returns c = way-is_way_of
