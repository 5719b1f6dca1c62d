-- What is kept of facts in range is held, and each owner has as many as among them.
use Rattle.{sim_census.proofs.Counting.kept_counts, sim_fact_lists.proofs.Holding.newly_held, sim_system.specs.declared.kind.Kind.TheVariants.Census}

pub invariant_of-self-2 : Rattle.sim_census.proofs.census.CensusSystem.rebuild.Goals.invariant_of-self-2
invariant_of-self-2 c = record {
  held = newly_held Census c.args.land.now _ c.args.facts.now _ c.requires.land c.requires.facts c.in_ok-copied.ensures c.in_ok-owners.ensures;
  counted = kept_counts c.args.facts.now _ _ c.in_ok-owners.ensures c.counts_of-self.ensures;
}
