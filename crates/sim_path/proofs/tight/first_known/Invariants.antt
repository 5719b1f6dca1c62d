use Rattle.sim_path.proofs.Common.{◌≡◌, ℕ, ◌<◌, true, Cell, field_of_grid, IsTightStep, marked_in}

abbrev pub invariant-loop-which : Rattle.sim_path.proofs.tight.first_known.Given.invariant-loop-which
invariant-loop-which g l = (j : ℕ) (p : Cell) → j < l.which → IsTightStep (field_of_grid l.question.grid.now) l.question.start (g.F.Floor.floor_of l.floor
    l.question.start) l.at.cell p j
    → marked_in l.dead p ≡ true
