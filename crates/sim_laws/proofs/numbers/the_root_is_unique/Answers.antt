use Rattle.sim_laws.proofs.Root.{root_is_unique}

pub returns : Rattle.sim_laws.proofs.numbers.the_root_is_unique.Goals.returns
returns c = root_is_unique
