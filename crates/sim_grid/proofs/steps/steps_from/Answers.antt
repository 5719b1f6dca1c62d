use Rattle.sim_grid.proofs.{Bits.{AreBits, bits_more, bits_past}, steps.steps_from.Goals.{else-leads_on, then-leads_on}}
use Rattle.{sim_grid.specs.Grids.{field_of_grid, is_open_step}, std.proofs.Common.{Bool, subst, sym, ℕ, ◌+◌, ◌∙◌}}

pub loop-which-preserved : Rattle.sim_grid.proofs.steps.steps_from.Goals.loop-which-preserved
loop-which-preserved c =
    let test : ℕ → Bool = is_open_step (field_of_grid c.args.cells.now) c.args.from in
    let n = c.loop-which.which in
    let before : AreBits test n c.loop-which.steps = record { seen = c.loop-which.invariant.seen; blank = c.loop-which.invariant.blank } in
    let after : AreBits test (n + 1) c.if-leads_on.steps =
    elim c.if-leads_on.branch [
      | then-leads_on w ↦ subst (AreBits test (n + 1)) (sym w.steps-is)
          (bits_more test n c.loop-which.steps c.loop-which-test.true (sym c.leads_on.ensures ∙ w.if-leads_on.true) before)
      | else-leads_on w ↦ subst (AreBits test (n + 1)) (sym w.steps-is) (bits_past test n c.loop-which.steps (sym c.leads_on.ensures ∙ w.if-leads_on.false)
          before)
    ] in
    record { seen = after.seen; blank = after.blank }
