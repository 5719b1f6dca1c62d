use Rattle.sim_path.{proofs.Common.{Cell, field_of_grid, IsTight, IsTightStep, marked_in, true, ℕ, ◌<◌, ◌≡◌}, specs.Questions.slope_of}

abbrev pub invariant-loop-which : Rattle.sim_path.proofs.slope.SlopeDescent.first_tight.Given.invariant-loop-which
invariant-loop-which l = (j : ℕ) (p : Cell) → j < l.which → IsTightStep (field_of_grid l.question.grid.now) l.question.start (slope_of l.self) l.fn.at p j
    → IsTight (field_of_grid l.question.grid.now) l.question.start (slope_of l.self) p → marked_in l.dead p ≡ true
