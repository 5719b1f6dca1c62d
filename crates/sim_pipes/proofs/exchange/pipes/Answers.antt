-- One pipe more is empty.
use Rattle.{sim_pipes.proofs.{Common.{arith, [], ◌∷◌}, Conveying.one_more_empty}, std.proofs.Common.length-append}

pub loop-preserved : Rattle.sim_pipes.proofs.exchange.pipes.Goals.loop-preserved
loop-preserved c = record {
  count = rw c.in_ok-push.ensures.items (omega (arith, c.loop.invariant.count, length-append c.loop.pipes.items (c.new.result ∷ [])));
  empty = λ k. rw (c.in_ok-push.ensures.items, c.new.ensures) (one_more_empty c.loop.pipes.items k (c.loop.invariant.empty k));
}
