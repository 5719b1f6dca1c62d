use Rattle.sim_path.proofs.front.FrontDescent.first_tight.Goals as goal

pub is_unknown-requires : goal.is_unknown-requires
is_unknown-requires c = c.left_at-cost.ensures

pub first_unknown-requires-clause-known : goal.first_unknown-requires-clause-known
first_unknown-requires-clause-known c = c.requires

pub first_unknown-requires-clause-unknown : goal.first_unknown-requires-clause-unknown
first_unknown-requires-clause-unknown c = c.is_unknown.ensures.0 c.if-is_unknown.true

pub first_unknown-requires-clause-cost : goal.first_unknown-requires-clause-cost
first_unknown-requires-clause-cost c = c.left_at-cost.ensures

pub returns-then-is_unknown : goal.returns-then-is_unknown
returns-then-is_unknown c = c.first_unknown.ensures

pub first_known-requires-clause-at_on : goal.first_known-requires-clause-at_on
first_known-requires-clause-at_on c = c.requires.at_on

pub first_known-requires-clause-cost : goal.first_known-requires-clause-cost
first_known-requires-clause-cost c = c.floor-cost.ensures

pub returns : goal.returns
returns c = c.first_known.ensures
