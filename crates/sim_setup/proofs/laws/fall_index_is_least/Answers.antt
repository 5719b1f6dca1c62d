use Rattle.sim_setup.proofs.Falls.{falls_least}

pub returns : Rattle.sim_setup.proofs.laws.fall_index_is_least.Goals.returns
returns c = λ commands i falls. falls_least commands i falls
