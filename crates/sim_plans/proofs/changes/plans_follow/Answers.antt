use Rattle.sim_plans.proofs.RowByRow.{plan_then}

pub returns : Rattle.sim_plans.proofs.changes.plans_follow.Goals.returns
returns c = plan_then
