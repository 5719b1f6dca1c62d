use Rattle.sim_vision.proofs.{Common.arith, Discs.far_cell}

pub returns-clause-before : Rattle.sim_vision.proofs.disc.Disc.first_row.Goals.returns-clause-before
returns-clause-before c = λ cell lt. far_cell c.args.self.now c.args.middle cell (omega (arith, c.saturating_sub.ensures, c.self.view_is))
