use Rattle.sim_search.proofs.Taking.{taken-least}

pub returns : Rattle.sim_search.proofs.laws.taken_is_least.Goals.returns
returns c = taken-least
