use Rattle.sim_laws.proofs.Validity.{valid_is_loose}

pub returns : Rattle.sim_laws.proofs.states.a_valid_state_is_loosely_valid.Goals.returns
returns c = valid_is_loose
