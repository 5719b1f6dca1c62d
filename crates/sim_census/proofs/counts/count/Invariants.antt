use Rattle.{sim_system.specs.Meanings.population_among, std.proofs.Common.take, std.proofs.Common.◌≡◌}

abbrev pub invariant-loop-fact : Rattle.sim_census.proofs.counts.count.Given.invariant-loop-fact
invariant-loop-fact l = l.n ≡ population_among (take l.fact-index l.facts) l.owner
