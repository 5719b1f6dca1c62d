use Rattle.sim_ground.proofs.Common.{◌≡◌, drop, list_any, overlap}

abbrev pub invariant-loop-other : Rattle.sim_ground.proofs.free.overlaps_closed.Given.invariant-loop-other
invariant-loop-other l = list_any (overlap l.rect) l.closed ≡ list_any (overlap l.rect) (drop l.other-index l.closed)
