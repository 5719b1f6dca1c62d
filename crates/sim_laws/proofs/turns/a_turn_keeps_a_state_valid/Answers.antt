use Rattle.sim_laws.proofs.Turning.{turn_is_counted, turn_keeps_valid}

pub returns : Rattle.sim_laws.proofs.turns.a_turn_keeps_a_state_valid.Goals.returns
returns c = record { valid = turn_keeps_valid; counted = turn_is_counted }
