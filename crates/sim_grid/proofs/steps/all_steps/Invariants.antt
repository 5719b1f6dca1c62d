use Rattle.{sim_grid.specs.Grids.AreFirstSteps, std.proofs.Common.◌*◌}

abbrev pub invariant-loop-z : Rattle.sim_grid.proofs.steps.all_steps.Given.invariant-loop-z
invariant-loop-z l = AreFirstSteps l.cells (l.z * l.cells.size.width) l.steps.items
