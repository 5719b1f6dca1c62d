-- One entity more stands in its bucket.
use Rattle.sim_range.proofs.{Common.arith, Nearing.one_more_bucketed}

pub loop-fact-preserved : Rattle.sim_range.proofs.buckets.buckets_of.Goals.loop-fact-preserved
loop-fact-preserved c = (
  c.change.ensures.whole,
  one_more_bucketed c.args.facts.now c.loop-fact.fact-index c.fact-item.result c.loop-fact.all.items c.make_room.new.buckets.items c.change.new.buckets.items
      c.requires.ascending (grind arith) c.fact-item.is c.loop-fact.invariant.0 c.change.ensures.whole c.loop-fact.invariant.1
      c.in_ok-make_room.ensures.still.each c.change.ensures.each,
)
