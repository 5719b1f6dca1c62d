use Rattle.{sim_json.specs.Keys.among, sim_json.specs.Keys.texts_of, std.proofs.Common.◌≡◌, std.proofs.Common.length}

abbrev pub invariant-loop-rest : Rattle.sim_json.proofs.keys.is_among.Given.invariant-loop-rest
invariant-loop-rest l = among l.key (texts_of l.rest) ≡ among l.key (texts_of l.keys)

abbrev pub decreases-loop-rest : Rattle.sim_json.proofs.keys.is_among.Given.decreases-loop-rest
decreases-loop-rest l = length l.rest
