use Rattle.sim_merge.proofs.Common.{◌≡◌, ◌++◌, map, drop, string_bytes, origins_of, parent_among}

abbrev pub invariant-loop-source : Rattle.sim_merge.proofs.chains.numbers_of.Given.invariant-loop-source
invariant-loop-source l =
    l.parents.items ++ map (parent_among (map string_bytes l.names.keys)) (origins_of (drop l.source-index l.sources))
    ≡ map (parent_among (map string_bytes l.names.keys)) (origins_of l.sources)
