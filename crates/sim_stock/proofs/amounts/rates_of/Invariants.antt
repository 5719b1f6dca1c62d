-- The rates of the templates so far.
use Rattle.sim_stock.proofs.Common.{◌≡◌, map, range_with_len, rate_named}

abbrev pub invariant-loop-number : Rattle.sim_stock.proofs.amounts.rates_of.Given.invariant-loop-number
invariant-loop-number l = l.rates.items ≡ map (rate_named l.named) (range_with_len 0 l.number)
