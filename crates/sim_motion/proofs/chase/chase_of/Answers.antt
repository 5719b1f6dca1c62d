-- The target stands inside, and its square is tested against a range within the limits.
use Rattle.{sim_base.specs.Rows.arms_of, sim_plans.proofs.Bounds.{arms_limited, found_inside, found_placed}, std.proofs.Common.{rules, Some, sym, ◌≡◌}}
use Rattle.sim_motion.proofs.chase.chase_of.Goals as goal

pub is_near-requires-clause-from : goal.is_near-requires-clause-from
is_near-requires-clause-from c = found_placed c.args.setup.now c.args.state.now c.target_of.result c.in-Some-find_row.target.now c.requires.limits
    c.requires.valid (sym c.in-Some-find_row.ensures)

pub is_near-requires-clause-radius : goal.is_near-requires-clause-radius
is_near-requires-clause-radius c =
    let e : arms_of c.args.setup.now c.args.row.now ≡ Some c.in-Some.arms = search rules in
    (arms_limited c.args.setup.now c.args.row.now c.in-Some.arms c.requires.limits e).range

pub returns-in_default-motion-clause-inside : goal.returns-in_default-motion-clause-inside
returns-in_default-motion-clause-inside c = found_inside c.args.setup.now c.args.state.now c.target_of.result c.in-Some-find_row.target.now c.requires.valid
    (sym c.in-Some-find_row.ensures)
