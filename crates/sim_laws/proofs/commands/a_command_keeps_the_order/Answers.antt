use Rattle.sim_laws.proofs.Turning.{command_keeps_order}

pub returns : Rattle.sim_laws.proofs.commands.a_command_keeps_the_order.Goals.returns
returns c = command_keeps_order
