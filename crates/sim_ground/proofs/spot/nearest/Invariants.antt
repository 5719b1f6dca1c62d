use Rattle.sim_ground.proofs.Common.{◌≡◌, None, fold, filter, is_open_at, IsSmallIfAny, nearer, rows_of}

abbrev pub invariant-loop-z : Rattle.sim_ground.proofs.spot.nearest.Given.invariant-loop-z
invariant-loop-z l = (l.best ≡ fold (nearer l.at) None (filter (is_open_at l.grid) (rows_of l.grid.size.width l.z))) × IsSmallIfAny l.best
