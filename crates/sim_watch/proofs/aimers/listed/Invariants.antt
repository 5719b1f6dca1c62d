use Rattle.sim_watch.proofs.{Common.◌≡◌, Common.map, Common.take, Listing.aimer_of}

abbrev pub invariant-loop-fact : Rattle.sim_watch.proofs.aimers.listed.Given.invariant-loop-fact
invariant-loop-fact l = l.all.items ≡ map aimer_of (take l.fact-index l.facts)
