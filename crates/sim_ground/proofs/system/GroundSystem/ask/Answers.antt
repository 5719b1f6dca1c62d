-- What is asked fits the grid, and what is answered over it is the answer over the facts.
use Rattle.sim_ground.proofs.Asking.{goal_fits, labels_known, open_fits, open_given, spot_fits, spot_given, start_fits, way_given}
use Rattle.sim_ground.proofs.system.GroundSystem.ask.Goals as goal

pub open-requires : goal.open-requires
open-requires c = open_fits c.args.self.now.kept.land c.in-Some-Some.land c.args.self.now.kept.facts.items c.args.self.now.opened c.in-Some-Some.opened
    c.args.ask.now c.requires c.in-Some-Some.is-0 c.in-Some-Some.is-1 c.args.self.now.over c.in-Open.cell c.in-Open.is

pub nearest-requires : goal.nearest-requires
nearest-requires c = spot_fits c.args.self.now.kept.land c.in-Some-Some.land c.args.self.now.kept.facts.items c.args.self.now.opened c.in-Some-Some.opened
    c.args.ask.now c.requires c.in-Some-Some.is-0 c.in-Some-Some.is-1 c.args.self.now.over c.in-Spot.at c.args.self.now.kept.held c.in-Spot.is

pub way_over-requires-clause-labels : goal.way_over-requires-clause-labels
way_over-requires-clause-labels c = labels_known c.args.self.now.kept.land c.in-Some-Some.land c.args.self.now.kept.facts.items c.args.self.now.opened
    c.in-Some-Some.opened c.args.ask.now c.requires c.in-Some-Some.is-0 c.in-Some-Some.is-1 c.args.self.now.over

pub way_over-requires-clause-start : goal.way_over-requires-clause-start
way_over-requires-clause-start c = start_fits c.args.self.now.kept.land c.in-Some-Some.land c.args.self.now.kept.facts.items c.args.self.now.opened
    c.in-Some-Some.opened c.args.ask.now c.requires c.in-Some-Some.is-0 c.in-Some-Some.is-1 c.args.self.now.over c.in-Way.start c.in-Way.goal c.in-Way.is

pub way_over-requires-clause-goal : goal.way_over-requires-clause-goal
way_over-requires-clause-goal c = goal_fits c.args.self.now.kept.land c.in-Some-Some.land c.args.self.now.kept.facts.items c.args.self.now.opened
    c.in-Some-Some.opened c.args.ask.now c.requires c.in-Some-Some.is-0 c.in-Some-Some.is-1 c.args.self.now.over c.in-Way.start c.in-Way.goal c.in-Way.is

pub returns-in-Open-clause-answer : goal.returns-in-Open-clause-answer
returns-in-Open-clause-answer c = open_given c.args.self.now.kept.land c.in-Some-Some.land c.args.self.now.kept.facts.items c.args.self.now.opened
    c.in-Some-Some.opened c.args.ask.now c.requires c.in-Some-Some.is-0 c.in-Some-Some.is-1 c.args.self.now.over c.in-Open.cell c.open.result c.in-Open.is
    c.open.ensures

pub returns-in-Spot-clause-answer : goal.returns-in-Spot-clause-answer
returns-in-Spot-clause-answer c = spot_given c.args.self.now.kept.land c.in-Some-Some.land c.args.self.now.kept.facts.items c.args.self.now.opened
    c.in-Some-Some.opened c.args.ask.now c.requires c.in-Some-Some.is-0 c.in-Some-Some.is-1 c.args.self.now.over c.in-Spot.at c.nearest.result c.in-Spot.is
    c.nearest.ensures

pub returns-in_ok-way_over-in-Way-clause-answer : goal.returns-in_ok-way_over-in-Way-clause-answer
returns-in_ok-way_over-in-Way-clause-answer c = way_given c.args.self.now.kept.land c.in-Some-Some.land c.args.self.now.kept.facts.items c.args.self.now.opened
    c.in-Some-Some.opened c.args.ask.now c.requires c.in-Some-Some.is-0 c.in-Some-Some.is-1 c.args.self.now.over c.in-Way.start c.in-Way.goal
    c.in_ok-way_over-in-Way.field-0 c.in-Way.is c.in_ok-way_over-in-Way.ensures
