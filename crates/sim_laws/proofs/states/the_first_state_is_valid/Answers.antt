use Rattle.sim_laws.proofs.Validity.{first_state_is_valid}

pub returns : Rattle.sim_laws.proofs.states.the_first_state_is_valid.Goals.returns
returns c = first_state_is_valid
