use Rattle.sim_plans.proofs.CommandPlan.{gone_plan_is}

pub returns : Rattle.sim_plans.proofs.phases.leaving_is_planned.Goals.returns
returns c = gone_plan_is
