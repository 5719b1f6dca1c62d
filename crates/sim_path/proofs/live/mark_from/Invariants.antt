use Rattle.{sim_path.proofs.Common.field_of_grid, sim_path.specs.Questions.IsSpreadFrom, sim_search.specs.Rows.number_in}

abbrev pub invariant-loop-which : Rattle.sim_path.proofs.live.mark_from.Given.invariant-loop-which
invariant-loop-which l = IsSpreadFrom (field_of_grid l.question.grid.now) l.question.start (number_in l.distances) l.fn.live l.live l.fn.list.items
    l.list.items l.which l.fn.cell
