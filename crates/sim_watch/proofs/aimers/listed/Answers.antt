-- Each fact gives its id and its target.
use Rattle.sim_watch.proofs.{Common.arith, Listing.listed_ascend, Listing.listed_facts}

pub returns-clause-ascend : Rattle.sim_watch.proofs.aimers.listed.Goals.returns-clause-ascend
returns-clause-ascend c = listed_ascend c.args.facts.now c.loop-fact.all.items c.loop-fact.fact-index c.requires c.loop-fact.invariant (omega arith)

pub returns-clause-facts : Rattle.sim_watch.proofs.aimers.listed.Goals.returns-clause-facts
returns-clause-facts c = listed_facts c.args.facts.now c.loop-fact.all.items c.loop-fact.fact-index c.loop-fact.invariant (omega arith)
