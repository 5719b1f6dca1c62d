use Rattle.sim_path.{proofs.Common.field_of_grid, proofs.TightTrails.IsAt, specs.Questions.is_dead, specs.Questions.slope_of}

abbrev pub invariant-loop : Rattle.sim_path.proofs.live.live_to.Given.invariant-loop
invariant-loop l = IsAt (field_of_grid l.question.grid.now) l.question.start (slope_of l.slope) l.question.goal l.trail.items (is_dead l.live) l.at
