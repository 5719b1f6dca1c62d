-- What a sort of numbers ensures is that they ascend.
use Rattle.sim_orders.proofs.Common.{ℕ, List, IsNonDecreasing, IsNonDecreasingBy-from_sort, subst, sym}

pub invariant_of-result : Rattle.sim_orders.proofs.named.Named.of.Goals.invariant_of-result
invariant_of-result c = record {
  ascending = subst (λ (ids : List ℕ). IsNonDecreasing ids) (sym c.from_items.ensures)
      (IsNonDecreasingBy-from_sort (λ n. n) _ c.sort_unstable.ensures.sorted);
}
