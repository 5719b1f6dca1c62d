-- The target that is found has an owner of the match and stands inside, as the row does.
use Rattle.{sim_plans.proofs.Bounds.found_owned, sim_plans.proofs.Bounds.found_placed, sim_plans.proofs.Bounds.row_placed, std.proofs.Common.sym}
use Rattle.sim_attack.proofs.battle.Battle.lets_go.Goals as goal

pub is_enemy_of-requires-clause-other : goal.is_enemy_of-requires-clause-other
is_enemy_of-requires-clause-other c = found_owned c.args.self.now.setup.now c.args.self.now.state.now c.target_of.result c.in-Some.target.now
    c.requires.limits c.requires.valid (sym c.in-Some.ensures)

pub reaches-requires-clause-row : goal.reaches-requires-clause-row
reaches-requires-clause-row c = row_placed c.args.self.now.setup.now c.args.self.now.state.now.rows c.args.row.now c.requires.limits c.requires.row_is

pub reaches-requires-clause-at : goal.reaches-requires-clause-at
reaches-requires-clause-at c = found_placed c.args.self.now.setup.now c.args.self.now.state.now c.target_of.result c.in-Some.target.now
    c.requires.limits c.requires.valid (sym c.in-Some.ensures)
