use Rattle.sim_territory.proofs.Holding.{one_holder}

pub returns : Rattle.sim_territory.proofs.laws.a_holder_is_first_of_the_greatest.Goals.returns
returns c = one_holder
