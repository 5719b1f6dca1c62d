-- What is held stands on the largest ground, and its owner has a bit in a mask.
use Rattle.sim_range.proofs.crowd.Held.is_within.Goals as goal
use Rattle.sim_range.proofs.Nearing.{owner_small, placed_on}

pub in_mask-requires : goal.in_mask-requires
in_mask-requires c = owner_small c.args.self.now.land.now c.args.fact.now c.args.self.now.holds.limits c.requires.held

pub is_near-requires-clause-first : goal.is_near-requires-clause-first
is_near-requires-clause-first c = placed_on c.args.self.now.land.now c.args.fact.now.at c.args.self.now.holds.limits c.requires.held.at

pub is_near-requires-clause-second : goal.is_near-requires-clause-second
is_near-requires-clause-second c = placed_on c.args.self.now.land.now c.args.at.now c.args.self.now.holds.limits c.requires.at
