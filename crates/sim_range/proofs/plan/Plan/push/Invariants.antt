use Rattle.sim_range.proofs.Common.{◌≡◌, ◌++◌, take, turned_seen, turned_watchers}

abbrev pub invariant-loop-fact : Rattle.sim_range.proofs.plan.Plan.push.Given.invariant-loop-fact
invariant-loop-fact l = record {
  watchers : l.self.watchers.items ≡ l.initial.self.watchers.items ++ turned_watchers l.held.land.now l.before l.after (take l.fact-index l.facts);
  seen : l.self.seen.items ≡ l.initial.self.seen.items ++ turned_seen l.held.land.now l.before l.after (take l.fact-index l.facts);
}
