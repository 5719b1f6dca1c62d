use Rattle.sim_search.proofs.Common.{ℕ, ◌+◌, Bool, is_some, AreBits, bits_more, bits_past, field_of_grid, step_to, subst, sym, ◌∙◌}
use Rattle.sim_search.proofs.steps.moves_by_trial.Goals.{else-is_allowed, then-is_allowed}

pub loop-which-preserved : Rattle.sim_search.proofs.steps.moves_by_trial.Goals.loop-which-preserved
loop-which-preserved c =
    let test : ℕ → Bool = λ j. is_some (step_to (field_of_grid c.args.grid.now) c.args.start c.args.from j) in
    let n = c.loop-which.which in
    elim c.if-is_allowed.branch [
      | then-is_allowed w ↦ subst (AreBits test (n + 1)) (sym w.moves-is)
          (bits_more test n c.loop-which.moves c.loop-which-test.true (sym c.is_allowed.ensures ∙ w.if-is_allowed.true) c.loop-which.invariant)
      | else-is_allowed w ↦ subst (AreBits test (n + 1)) (sym w.moves-is)
          (bits_past test n c.loop-which.moves (sym c.is_allowed.ensures ∙ w.if-is_allowed.false) c.loop-which.invariant)
    ]
