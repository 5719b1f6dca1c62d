use Rattle.sim_search.proofs.Taking.{taken-before}

pub returns : Rattle.sim_search.proofs.laws.taken_in_order.Goals.returns
returns c = taken-before
