use Rattle.sim_grid.specs.Grids.{AreStepsBefore}

abbrev pub invariant-loop-which : Rattle.sim_grid.proofs.steps.note_about.Given.invariant-loop-which
invariant-loop-which l = AreStepsBefore l.cells l.about l.which l.steps.items
