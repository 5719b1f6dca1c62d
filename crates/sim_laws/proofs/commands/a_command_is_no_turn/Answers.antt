use Rattle.sim_laws.proofs.Turning.{command_keeps_turn}

pub returns : Rattle.sim_laws.proofs.commands.a_command_is_no_turn.Goals.returns
returns c = command_keeps_turn
