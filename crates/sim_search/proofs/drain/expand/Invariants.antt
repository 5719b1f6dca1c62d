use Rattle.sim_search.proofs.{Common.field_of_grid, Draining.Expanding}

abbrev pub invariant-loop-which : Rattle.sim_search.proofs.drain.expand.Given.invariant-loop-which
invariant-loop-which g l = Expanding (g.A.Guide.estimate_of l.aim) (field_of_grid l.grid) l.initial.search l.search l.fn.from l.cost l.which
