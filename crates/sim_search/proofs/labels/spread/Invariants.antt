use Rattle.sim_search.proofs.{Common.field_of_grid, Floods.Spreading}

abbrev pub invariant-loop-which : Rattle.sim_search.proofs.labels.spread.Given.invariant-loop-which
invariant-loop-which l = Spreading (field_of_grid l.grid) l.initial.flood l.flood l.from l.label l.which
