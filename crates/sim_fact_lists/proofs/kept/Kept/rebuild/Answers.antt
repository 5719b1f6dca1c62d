-- What is kept of facts in range is held.
use Rattle.sim_fact_lists.proofs.Holding.{newly_held}

pub invariant_of-self-2 : Rattle.sim_fact_lists.proofs.kept.Kept.rebuild.Goals.invariant_of-self-2
invariant_of-self-2 c = record {
  held = newly_held c.args.kind c.args.land.now _ _ _ c.requires.land c.requires.facts c.in_ok-copied.ensures
      c.in_ok-self.ensures;
}
