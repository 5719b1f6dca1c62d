use Rattle.{sim_census.proofs.Owning.owned_in, std.proofs.Common.◌≡◌, std.proofs.Common.map, std.proofs.Common.take}

abbrev pub invariant-loop-fact : Rattle.sim_census.proofs.owners.listed.Given.invariant-loop-fact
invariant-loop-fact l = l.all.items ≡ map owned_in (take l.fact-index l.facts)
