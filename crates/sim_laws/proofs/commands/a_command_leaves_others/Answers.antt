use Rattle.sim_laws.proofs.Others.{command_leaves_others}

pub returns : Rattle.sim_laws.proofs.commands.a_command_leaves_others.Goals.returns
returns c = command_leaves_others
