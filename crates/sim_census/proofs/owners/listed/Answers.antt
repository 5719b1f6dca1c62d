-- Each fact gives its id and its owner.
use Rattle.{sim_census.proofs.Owning.listed_ascend, sim_census.proofs.Owning.listed_facts, std.proofs.Common.arith}

pub returns-clause-ascend : Rattle.sim_census.proofs.owners.listed.Goals.returns-clause-ascend
returns-clause-ascend c = listed_ascend c.args.facts.now c.loop-fact.all.items c.loop-fact.fact-index c.requires c.loop-fact.invariant (omega arith)

pub returns-clause-facts : Rattle.sim_census.proofs.owners.listed.Goals.returns-clause-facts
returns-clause-facts c = listed_facts c.args.facts.now c.loop-fact.all.items c.loop-fact.fact-index c.loop-fact.invariant (omega arith)
