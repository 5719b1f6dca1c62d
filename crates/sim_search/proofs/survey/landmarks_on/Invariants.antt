use Rattle.sim_search.{proofs.Common.field_of_grid, proofs.Common.◌≡◌, specs.Rows.AreLandmarks, specs.Rows.row_in, specs.Rows.size_by}

abbrev pub invariant-loop-which : Rattle.sim_search.proofs.survey.landmarks_on.Given.invariant-loop-which
invariant-loop-which l = record {
  size : size_by l.landmarks ≡ l.grid.size;
  rows : AreLandmarks (field_of_grid l.grid) (row_in l.landmarks);
}
