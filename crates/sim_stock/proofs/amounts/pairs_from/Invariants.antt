-- The pairs so far, each within the limits.
use Rattle.sim_stock.proofs.Common.{◌≡◌, [], map, length, All, IsRate, pair_of, records, view}

abbrev pub invariant-loop-rest : Rattle.sim_stock.proofs.amounts.pairs_from.Given.invariant-loop-rest
invariant-loop-rest l = record {
  same : records (λ done. pair_of) l.found.items (map view l.rest) ≡ records (λ done. pair_of) [] (map view l.items);
  limits : All (IsRate 1000000000) l.found.items;
}

abbrev pub decreases-loop-rest : Rattle.sim_stock.proofs.amounts.pairs_from.Given.decreases-loop-rest
decreases-loop-rest l = length l.rest
