use Rattle.sim_plans.proofs.RowByRow.{row_by_row_is}

pub returns : Rattle.sim_plans.proofs.changes.rows_are_changed_one_by_one.Goals.returns
returns c = row_by_row_is
