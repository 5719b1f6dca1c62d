use Rattle.sim_setup.proofs.Common.{[], is_least, source_of}

pub returns : Rattle.sim_setup.proofs.laws.source_index_is_least.Goals.returns
returns c = λ ds i refused. is_least (λ done. source_of) [] ds i refused
