-- The owner of a row that is found has a bit in a mask.
use Rattle.sim_orders.proofs.Common.{found_owned, sym}

pub is_enemy_of-requires-clause-other : Rattle.sim_orders.proofs.checks.is_enemy.Goals.is_enemy_of-requires-clause-other
is_enemy_of-requires-clause-other c =
    found_owned c.args.setup.now c.args.state.now c.args.target c.in-Some.row.now c.requires.limits c.requires.valid (sym c.in-Some.ensures)
