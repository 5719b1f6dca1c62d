use Rattle.sim_range.proofs.Common.{◌≡◌, map, take, ids_of, sight}

abbrev pub invariant-loop-fact : Rattle.sim_range.proofs.sights.sights_of.Given.invariant-loop-fact
invariant-loop-fact l = map ids_of l.all.items ≡ map (sight l.crowd.held.land.now l.crowd.held.facts.now) (take l.fact-index l.crowd.held.facts.now)
