use Rattle.sim_vision.proofs.Telling.{told_from_the_start}

pub returns : Rattle.sim_vision.proofs.laws.lines_from_the_start.Goals.returns
returns c = told_from_the_start
