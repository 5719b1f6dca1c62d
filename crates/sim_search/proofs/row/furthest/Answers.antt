-- One number more of both rows.
use Rattle.sim_search.proofs.{Common.ap₂, Common.max, Common.sym, Common.◌∙◌, Rows.apart-more}

pub loop-i-preserved : Rattle.sim_search.proofs.row.furthest.Goals.loop-i-preserved
loop-i-preserved c = c.max-most.ensures ∙ ap₂ max c.loop-i.invariant c.abs_diff.ensures ∙ sym (apart-more c.loop-i.i c.args.a.now c.args.b.now)
