use Rattle.sim_range.proofs.Common.{IsPermutation, below_bucket, turned_seen, turned_watchers}

abbrev pub invariant-loop-number : Rattle.sim_range.proofs.plan.Plan.find.Given.invariant-loop-number
invariant-loop-number l = record {
  watchers : IsPermutation (turned_watchers l.crowd.held.land.now l.before l.after (below_bucket l.number l.crowd.held.facts.now)) l.self.watchers.items;
  seen : IsPermutation (turned_seen l.crowd.held.land.now l.before l.after (below_bucket l.number l.crowd.held.facts.now)) l.self.seen.items;
}
