use Rattle.sim_merge.proofs.Common.{◌≡◌, ℕ, ◌<◌, false, map, get_or, string_bytes, is_orphan, Origin, origins_of}

abbrev pub invariant-loop-number : Rattle.sim_merge.proofs.chains.first_orphan.Given.invariant-loop-number
invariant-loop-number l = (k : ℕ) (d : Origin) → k < l.number → is_orphan (map string_bytes l.names.keys) (get_or (origins_of l.sources) k d) ≡ false
