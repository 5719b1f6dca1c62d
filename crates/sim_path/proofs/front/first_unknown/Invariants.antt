use Rattle.sim_path.proofs.Common.{◌≡◌, ℕ, ◌<◌, true, Cell, field_of_grid, floor_of, IsTightStep, marked_in}

abbrev pub invariant-loop-which : Rattle.sim_path.proofs.front.first_unknown.Given.invariant-loop-which
invariant-loop-which l = (j : ℕ) (p : Cell) → j < l.which → IsTightStep (field_of_grid l.question.grid.now) l.question.start (floor_of l.front
    l.question.start) l.at.cell p j
    → marked_in l.dead p ≡ true
