use Rattle.{sim_path.proofs.Common.field_of_grid, sim_path.specs.Questions.AreLiveBut, sim_search.specs.Rows.number_in}

abbrev pub invariant-loop : Rattle.sim_path.proofs.live.mark_all.Given.invariant-loop
invariant-loop l = AreLiveBut (field_of_grid l.question.grid.now) l.question.start (number_in l.distances) l.live l.list.items
