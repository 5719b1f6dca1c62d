use Rattle.sim_range.proofs.Common.{take, All, SeesFrom, SeesWithin}

abbrev pub invariant-loop-fact : Rattle.sim_range.proofs.visions.visions_of.Given.invariant-loop-fact
invariant-loop-fact l = record {
  near : All (SeesFrom l.visions.near) (take l.fact-index l.facts);
  far : All (SeesWithin l.visions.far) (take l.fact-index l.facts);
}
