use Rattle.sim_path.proofs.Common.{IfOk-from_err}

pub returns-in_err-push : Rattle.sim_path.proofs.answer.way_within.Goals.returns-in_err-push
returns-in_err-push c = IfOk-from_err _ _ c.from_residual.ensures.0
