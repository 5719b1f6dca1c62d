use Rattle.sim_path.{proofs.Common.{Cell, field_of_grid, IsTightStep, true, ℕ, ◌<◌, ◌≡◌}, specs.Questions.{is_dead, slope_of}}

abbrev pub invariant-loop-which : Rattle.sim_path.proofs.live.first_live.Given.invariant-loop-which
invariant-loop-which l = (j : ℕ) (p : Cell) → j < l.which → IsTightStep (field_of_grid l.question.grid.now) l.question.start (slope_of l.slope) l.fn.cell p j
    → is_dead l.live p ≡ true
