use Rattle.sim_search.proofs.Common.{◌*◌, field_of_grid, Flooded}

abbrev pub invariant-loop-z : Rattle.sim_search.proofs.labels.labels_of.Given.invariant-loop-z
invariant-loop-z l = Flooded (field_of_grid l.grid) l.flood (l.z * l.grid.size.width)
