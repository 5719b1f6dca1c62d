-- One id more is above the one before it, or the answer is no.
use Rattle.sim_codec.proofs.{Checked.above_more, Checked.not_above, Common.false≢true}

pub returns-then-rows-i : Rattle.sim_codec.proofs.validity.are_ascending.Goals.returns-then-rows-i
returns-then-rows-i c = (
  λ e. absurd (false≢true e),
  λ h. absurd (not_above c.args.rows.now c.loop-i.i c.index-rows-i.result c.index-rows-i-in-loop-i.result c.loop-i.auto.i c.loop-i-test.true c.if-rows-i.true
      h),
)

pub loop-i-preserved : Rattle.sim_codec.proofs.validity.are_ascending.Goals.loop-i-preserved
loop-i-preserved c = above_more c.args.rows.now c.loop-i.i c.index-rows-i.result c.index-rows-i-in-loop-i.result c.loop-i.auto.i c.loop-i-test.true
    c.if-rows-i.false c.loop-i.invariant
