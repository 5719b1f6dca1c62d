-- The range is within the limits.
use Rattle.{sim_plans.proofs.Bounds.arms_limited, std.proofs.Common.sym}

pub is_near-requires-clause-radius : Rattle.sim_attack.proofs.aim.reaches.Goals.is_near-requires-clause-radius
is_near-requires-clause-radius c = (arms_limited c.args.setup.now c.args.row.now c.in-Some.arms c.requires.limits (sym c.in-Some.ensures)).range
