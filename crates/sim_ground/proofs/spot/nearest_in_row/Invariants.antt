use Rattle.sim_ground.proofs.Common.{◌≡◌, fold, filter, is_open_at, IsSmallIfAny, nearer, row_of}

abbrev pub invariant-loop-x : Rattle.sim_ground.proofs.spot.nearest_in_row.Given.invariant-loop-x
invariant-loop-x l = (l.best ≡ fold (nearer l.at) l.initial.best (filter (is_open_at l.grid) (row_of l.z l.x))) × IsSmallIfAny l.best
