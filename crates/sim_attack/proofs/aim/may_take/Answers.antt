-- A row that is found stands inside, and the range is within the limits.
use Rattle.{sim_plans.proofs.Bounds.arms_limited, sim_plans.proofs.Bounds.found_placed, std.proofs.Common.sym}

pub is_near-requires-clause-from : Rattle.sim_attack.proofs.aim.may_take.Goals.is_near-requires-clause-from
is_near-requires-clause-from g c = found_placed c.args.scene.now.setup.now c.args.scene.now.state.now c.args.id c.in-Some.other.now c.requires.stands.limits
    c.requires.stands.valid (sym c.in-Some.ensures)

pub is_near-requires-clause-radius : Rattle.sim_attack.proofs.aim.may_take.Goals.is_near-requires-clause-radius
is_near-requires-clause-radius g c = (arms_limited c.args.scene.now.setup.now c.args.row.now c.args.arms.now c.requires.stands.limits c.requires.arms).range
