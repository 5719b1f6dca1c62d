use Rattle.sim_search.proofs.Common.{IfOk-from_err}

pub returns-in_err-vec : Rattle.sim_search.proofs.queue.no_marks.Goals.returns-in_err-vec
returns-in_err-vec c = IfOk-from_err _ _ c.from_residual.ensures.0
