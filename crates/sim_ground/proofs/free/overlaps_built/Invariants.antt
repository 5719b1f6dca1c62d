use Rattle.sim_ground.proofs.Common.{◌≡◌, drop, Fact, list_any, overlaps_any}

abbrev pub invariant-loop-fact : Rattle.sim_ground.proofs.free.overlaps_built.Given.invariant-loop-fact
invariant-loop-fact l = list_any (λ (fact : Fact). overlaps_any l.rect fact.rect) l.facts ≡ list_any (λ (fact : Fact). overlaps_any l.rect fact.rect)
    (drop l.fact-index l.facts)
