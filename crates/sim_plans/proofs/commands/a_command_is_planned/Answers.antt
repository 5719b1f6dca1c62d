use Rattle.sim_plans.proofs.CommandPlan.{command_is_own, command_is_planned}

pub returns : Rattle.sim_plans.proofs.commands.a_command_is_planned.Goals.returns
returns c = record { planned = command_is_planned; own = command_is_own }
