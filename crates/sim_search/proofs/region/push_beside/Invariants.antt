use Rattle.sim_search.proofs.{Added.Adding, Common.field_of_grid}

abbrev pub invariant-loop-which : Rattle.sim_search.proofs.region.push_beside.Given.invariant-loop-which
invariant-loop-which l = Adding (field_of_grid l.grid) l.window l.from l.initial.cells.items l.cells.items l.which
