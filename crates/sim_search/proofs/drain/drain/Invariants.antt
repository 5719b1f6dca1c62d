use Rattle.sim_search.proofs.{Common.drop, Common.field_of_grid, Draining.Draining}

abbrev pub invariant-loop-cell : Rattle.sim_search.proofs.drain.drain.Given.invariant-loop-cell
invariant-loop-cell g l = Draining (g.A.Guide.estimate_of l.aim) (field_of_grid l.grid) l.initial.search l.search l.now (drop l.cell-index l.bucket) l.any
