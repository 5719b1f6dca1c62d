use Rattle.sim_vision.proofs.Telling.{told_from_a_file}

pub returns : Rattle.sim_vision.proofs.laws.lines_from_a_file.Goals.returns
returns c = told_from_a_file
