use Rattle.sim_laws.proofs.Turning.{command_keeps_valid}

pub returns : Rattle.sim_laws.proofs.commands.a_command_keeps_a_state_valid.Goals.returns
returns c = command_keeps_valid
