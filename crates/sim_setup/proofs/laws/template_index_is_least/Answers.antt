use Rattle.sim_setup.proofs.Common.{[], is_least, next_template}

pub returns : Rattle.sim_setup.proofs.laws.template_index_is_least.Goals.returns
returns c = λ names roots origins i refused. is_least (next_template names roots) [] origins i refused
