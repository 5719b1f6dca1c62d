use Rattle.sim_merge.proofs.Common.{◌≡◌, ◌++◌, map, drop, string_bytes, names_in, origins_of}

abbrev pub invariant-loop-source : Rattle.sim_merge.proofs.chains.names_of.Given.invariant-loop-source
invariant-loop-source l = names_in (origins_of l.sources) ≡ map string_bytes l.names.keys ++ names_in (origins_of (drop l.source-index l.sources))
