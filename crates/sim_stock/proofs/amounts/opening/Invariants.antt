-- The amounts of the players so far.
use Rattle.sim_stock.proofs.Common.{◌≡◌, ℕ, ◌<◌, length, get_or, rate_at}

abbrev pub invariant-loop-place : Rattle.sim_stock.proofs.amounts.opening.Given.invariant-loop-place
invariant-loop-place l = record {
  food_size : length l.food ≡ 8;
  food : (k : ℕ) → k < l.place → get_or l.food k 0 ≡ (rate_at l.pairs k).food;
  metal_size : length l.metal ≡ 8;
  metal : (k : ℕ) → k < l.place → get_or l.metal k 0 ≡ (rate_at l.pairs k).metal;
}
