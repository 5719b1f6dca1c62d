use Rattle.sim_search.proofs.Common.{ℕ, is_some, AreBits, field_of_grid, step_to}

abbrev pub invariant-loop-which : Rattle.sim_search.proofs.steps.moves_by_trial.Given.invariant-loop-which
invariant-loop-which l = AreBits (λ (j : ℕ). is_some (step_to (field_of_grid l.grid) l.start l.from j)) l.which l.moves
