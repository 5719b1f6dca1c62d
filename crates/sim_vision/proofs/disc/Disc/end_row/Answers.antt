use Rattle.sim_vision.proofs.{Common.arith, Discs.far_cell}

pub returns-clause-behind : Rattle.sim_vision.proofs.disc.Disc.end_row.Goals.returns-clause-behind
returns-clause-behind c = λ cell le. far_cell c.args.self.now c.args.middle cell (omega (arith, c.self.view_is))
