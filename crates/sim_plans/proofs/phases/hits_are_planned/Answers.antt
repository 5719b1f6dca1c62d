use Rattle.sim_plans.proofs.RowByRow.{hit_plan_is}

pub returns : Rattle.sim_plans.proofs.phases.hits_are_planned.Goals.returns
returns c = hit_plan_is
