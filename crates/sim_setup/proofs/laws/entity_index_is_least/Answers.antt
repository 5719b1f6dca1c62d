use Rattle.sim_setup.proofs.Common.{[], first_of, is_least}

pub returns : Rattle.sim_setup.proofs.laws.entity_index_is_least.Goals.returns
returns c = λ templates land players ds i refused. is_least (λ done. first_of templates land players) [] ds i refused
