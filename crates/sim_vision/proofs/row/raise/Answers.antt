-- The loop comes to the end of the cells, or has none.
use Rattle.sim_vision.proofs.{Common.{ap, arith, Bool, false, get_or, one_if, ◌+◌, ◌||◌, ◌∙◌}, Rows.done_same}

pub returns-clause-counts : Rattle.sim_vision.proofs.row.raise.Goals.returns-clause-counts
returns-clause-counts c = λ k.
    let same = done_same c.args.from c.args.to c.loop-at.at k c.loop-at.auto.at (omega arith) c.loop-at.invariant.last in
    c.loop-at.invariant.counted k ∙ ap (λ (b : Bool). get_or c.args.counts.now k 0 + one_if b) same

pub returns-clause-flags : Rattle.sim_vision.proofs.row.raise.Goals.returns-clause-flags
returns-clause-flags c = λ k.
    let same = done_same c.args.from c.args.to c.loop-at.at k c.loop-at.auto.at (omega arith) c.loop-at.invariant.last in
    c.loop-at.invariant.flagged k ∙ ap (λ (b : Bool). get_or c.args.flags.now k false || b) same
