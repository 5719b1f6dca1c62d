-- The number that is looked up is the population.
use Rattle.sim_census.proofs.Counting.{answer_is}

pub returns-clause-answer : Rattle.sim_census.proofs.census.CensusSystem.ask.Goals.returns-clause-answer
returns-clause-answer c = answer_is _ _ _ c.args.self.now.counts c.args.ask.now c.in-Count.owner _ c.requires c.args.self.now.held c.args.self.now.counted
    c.number.ensures.full c.in-Count.is c.number.ensures.number
