use Rattle.sim_ground.{proofs.Common.count_by, proofs.Common.covers, proofs.Common.Rect, proofs.Common.take, specs.Covering.Rises}

abbrev pub invariant-loop-rect : Rattle.sim_ground.proofs.cover.Cover.close_all.Given.invariant-loop-rect
invariant-loop-rect l = Rises (λ c. count_by (λ (r : Rect). covers r c) (take l.rect-index l.closed)) l.initial.self l.self
