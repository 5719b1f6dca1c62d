-- The law is a lemma: two ways of one question are one.
use Rattle.sim_laws.proofs.OneWay.{way_unique}

pub returns : Rattle.sim_laws.proofs.ways.one_way.Goals.returns
returns c = way_unique
