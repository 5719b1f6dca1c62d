-- The rates so far, each within the limit.
use Rattle.sim_stock.proofs.Common.{◌≡◌, [], map, length, All, IsRate, named_of, NamedRate, records, view}

abbrev pub invariant-loop-rest : Rattle.sim_stock.proofs.amounts.named_from.Given.invariant-loop-rest
invariant-loop-rest l = record {
  same : records (named_of l.templates l.limit) l.found.items (map view l.rest) ≡ records (named_of l.templates l.limit) [] (map view l.items);
  limits : All (λ (n : NamedRate). IsRate l.limit n.rate) l.found.items;
}

abbrev pub decreases-loop-rest : Rattle.sim_stock.proofs.amounts.named_from.Given.decreases-loop-rest
decreases-loop-rest l = length l.rest
