use Rattle.sim_setup.proofs.Common.{[], is_least, timed_of}

pub returns : Rattle.sim_setup.proofs.laws.command_index_is_least.Goals.returns
returns c = λ turns players ds i refused. is_least (timed_of turns players) [] ds i refused
