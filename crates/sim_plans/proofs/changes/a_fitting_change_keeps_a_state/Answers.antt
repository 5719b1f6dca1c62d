use Rattle.sim_plans.proofs.Applying.{all_fitting_keep_loose, fitting_keeps_loose}

pub returns : Rattle.sim_plans.proofs.changes.a_fitting_change_keeps_a_state.Goals.returns
returns c = record { one = fitting_keeps_loose; all = all_fitting_keep_loose }
