use Rattle.sim_search.proofs.Common.{IfOk-from_err, inr}

pub returns-in_ok-wait : Rattle.sim_search.proofs.queue.lower.Goals.returns-in_ok-wait
returns-in_ok-wait g c = inr c.in_ok-wait.ensures

pub returns-in_err-wait : Rattle.sim_search.proofs.queue.lower.Goals.returns-in_err-wait
returns-in_err-wait g c = IfOk-from_err _ _ c.from_residual.ensures.0
