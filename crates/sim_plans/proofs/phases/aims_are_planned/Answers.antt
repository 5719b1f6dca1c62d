use Rattle.sim_plans.proofs.AimPlan.{aim_plan_is}

pub returns : Rattle.sim_plans.proofs.phases.aims_are_planned.Goals.returns
returns c = aim_plan_is
