use Rattle.sim_plans.proofs.CommandPlan.{turn_is_planned}

pub returns : Rattle.sim_plans.proofs.turns.a_turn_is_planned.Goals.returns
returns c = turn_is_planned
