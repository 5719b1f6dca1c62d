use Rattle.sim_merge.proofs.Common.{◌≡◌, drop, bytes_eq, list_any, names_in, origins_of}

abbrev pub invariant-loop-source : Rattle.sim_merge.proofs.chains.has_name.Given.invariant-loop-source
invariant-loop-source l = list_any (bytes_eq l.name) (names_in (origins_of (drop l.source-index l.sources))) ≡ list_any (bytes_eq l.name)
    (names_in (origins_of l.sources))
