use Rattle.sim_path.proofs.Common.{ℕ, ◌+◌, Bool, AreBits, bits_more, bits_past, leads_away, subst, sym, ◌∙◌}
use Rattle.sim_path.proofs.away.away_from.Goals.{else-leads_away, then-leads_away}

pub loop-which-preserved : Rattle.sim_path.proofs.away.away_from.Goals.loop-which-preserved
loop-which-preserved c =
    let test : ℕ → Bool = λ j. leads_away c.args.at c.args.goal j in
    let n = c.loop-which.which in
    elim c.if-leads_away.branch [
      | then-leads_away w ↦ subst (AreBits test (n + 1)) (sym w.away-is)
          (bits_more test n c.loop-which.away c.loop-which-test.true (sym c.leads_away.ensures ∙ w.if-leads_away.true) c.loop-which.invariant)
      | else-leads_away w ↦ subst (AreBits test (n + 1)) (sym w.away-is) (bits_past test n c.loop-which.away (sym c.leads_away.ensures ∙ w.if-leads_away.false)
          c.loop-which.invariant)
    ]
