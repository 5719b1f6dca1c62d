-- The loop comes to the end of the cells, or has none.
use Rattle.sim_vision.proofs.{Common.◌+◌, Common.Bool, Common.get_or, Common.ap, Common.arith, Common.one_if, Common.sym, Common.◌∙◌, Rows.done_same}

pub returns : Rattle.sim_vision.proofs.row.lower.Goals.returns
returns c = λ k.
    let same = done_same c.args.from c.args.to c.loop-at.at k c.loop-at.auto.at (omega arith) c.loop-at.invariant.last in
    ap (λ (b : Bool). get_or c.loop-at.counts k 0 + one_if b) (sym same) ∙ c.loop-at.invariant.counted k
