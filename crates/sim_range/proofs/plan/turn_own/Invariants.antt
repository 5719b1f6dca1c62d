use Rattle.sim_range.proofs.{Common.Some, Common.fact_with, Common.sees, Common.take, Common.◌≡◌, Nearing.chosen, Watching.mixed}

abbrev pub invariant-loop-id : Rattle.sim_range.proofs.plan.turn_own.Given.invariant-loop-id
invariant-loop-id l = l.own.ids.items ≡ chosen (mixed (sees l.held.land.now (fact_with l.held.facts.now l.watcher.id)) (sees l.held.land.now (Some l.watcher))
    (take l.id-index l.seen))
    l.held.facts.now
