-- One rate more.
use Rattle.sim_stock.proofs.Common.{arith, map-range_with_len_more, rate_named}

pub loop-number-preserved : Rattle.sim_stock.proofs.amounts.rates_of.Goals.loop-number-preserved
loop-number-preserved c =
    let more = map-range_with_len_more (rate_named c.args.named.now) 0 c.loop-number.number c.loop-number.number (omega arith) in
    cc (c.in_ok-push.ensures.items, c.loop-number.invariant, c.rate_named.ensures)
