use Rattle.sim_laws.proofs.Root.{root_is_greatest}

pub returns : Rattle.sim_laws.proofs.numbers.the_root_is_greatest.Goals.returns
returns c = root_is_greatest
