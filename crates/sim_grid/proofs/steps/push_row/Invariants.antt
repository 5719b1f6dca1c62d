use Rattle.{sim_grid.specs.Grids.AreFirstSteps, std.proofs.Common.◌*◌, std.proofs.Common.◌+◌}

abbrev pub invariant-loop-x : Rattle.sim_grid.proofs.steps.push_row.Given.invariant-loop-x
invariant-loop-x l = AreFirstSteps l.cells (l.z * l.cells.size.width + l.x) l.steps.items
