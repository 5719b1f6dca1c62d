use Rattle.sim_search.proofs.Common.{◌+◌, ◌*◌, field_of_grid, Flooded}

abbrev pub invariant-loop-x : Rattle.sim_search.proofs.labels.flood_row.Given.invariant-loop-x
invariant-loop-x l = Flooded (field_of_grid l.grid) l.flood (l.z * l.grid.size.width + l.x)
