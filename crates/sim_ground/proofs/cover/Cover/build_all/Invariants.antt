use Rattle.sim_ground.{proofs.Common.count_by, proofs.Common.Fact, proofs.Common.rect_covers, proofs.Common.take, specs.Covering.Rises}

abbrev pub invariant-loop-fact : Rattle.sim_ground.proofs.cover.Cover.build_all.Given.invariant-loop-fact
invariant-loop-fact l = Rises (λ c. count_by (λ (f : Fact). rect_covers f.rect c) (take l.fact-index l.facts)) l.initial.self l.self
