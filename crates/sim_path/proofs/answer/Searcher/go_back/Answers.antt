use Rattle.sim_path.proofs.Common.{IfOk-from_err}

pub returns-in_err-dead : Rattle.sim_path.proofs.answer.Searcher.go_back.Goals.returns-in_err-dead
returns-in_err-dead g c = IfOk-from_err _ _ c.from_residual.ensures.0
