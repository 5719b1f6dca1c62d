use Rattle.sim_path.proofs.Common.{IfOk-from_err}

pub returns-in_err-vec : Rattle.sim_path.proofs.unmarked.no_marks.Goals.returns-in_err-vec
returns-in_err-vec c = IfOk-from_err _ _ c.from_residual.ensures.0
