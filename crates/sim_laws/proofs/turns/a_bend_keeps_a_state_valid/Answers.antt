use Rattle.sim_laws.proofs.Turning.{bend_keeps_turn, bend_keeps_valid}

pub returns : Rattle.sim_laws.proofs.turns.a_bend_keeps_a_state_valid.Goals.returns
returns c = record { valid = bend_keeps_valid; turn = bend_keeps_turn }
