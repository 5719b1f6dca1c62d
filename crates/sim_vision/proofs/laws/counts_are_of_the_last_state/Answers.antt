use Rattle.sim_vision.proofs.After.{counts_last}

pub returns : Rattle.sim_vision.proofs.laws.counts_are_of_the_last_state.Goals.returns
returns c = counts_last
