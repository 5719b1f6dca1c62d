-- What is kept of one fact more is added.
use Rattle.sim_fact_lists.proofs.{Placing.kept_of-more, Placing.nothing_more, part.all_kept.Goals.in-Some+in_ok-push, part.all_kept.Goals.in_default}
use Rattle.sim_fact_lists.proofs.Common.{[], ◌++◌, Option, ap, arith, cons_option, Fact, sym, ◌∙◌}

pub loop-fact-preserved : Rattle.sim_fact_lists.proofs.part.all_kept.Goals.loop-fact-preserved
loop-fact-preserved c = kept_of-more c.args.kind c.args.facts.now c.loop-fact.all c.match-kept.all c.loop-fact.fact-index c.fact-item.result
    c.loop-fact.invariant (grind arith) c.fact-item.is (elim c.match-kept.branch [
      | in-Some+in_ok-push w ↦ w.all-is ∙ w.in_ok-push.ensures.ok ∙ ap (λ (o : Option Fact). c.loop-fact.all ++ cons_option o [])
          (sym w.in-Some.is ∙ c.kept.ensures)
      | in_default w ↦ w.all-is ∙ nothing_more c.loop-fact.all ∙ ap (λ (o : Option Fact). c.loop-fact.all ++ cons_option o [])
          (sym w.in_default.is ∙ c.kept.ensures)
    ])
