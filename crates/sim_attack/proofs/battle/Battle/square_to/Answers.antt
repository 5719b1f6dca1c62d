use Rattle.{sim_plans.proofs.Bounds.found_placed, std.proofs.Common.sym}

pub square-requires-clause-a : Rattle.sim_attack.proofs.battle.Battle.square_to.Goals.square-requires-clause-a
square-requires-clause-a c = found_placed c.args.self.now.setup.now c.args.self.now.state.now c.args.id c.in-Some.other.now c.requires.limits c.requires.valid
    (sym c.in-Some.ensures)
