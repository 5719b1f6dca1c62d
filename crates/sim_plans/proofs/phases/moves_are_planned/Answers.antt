use Rattle.sim_plans.proofs.MovePlan.{move_plan_is}

pub returns : Rattle.sim_plans.proofs.phases.moves_are_planned.Goals.returns
returns c = move_plan_is
