-- Each amount is the one of its place.
use Rattle.sim_stock.proofs.Common.{◌≡◌, ℕ, map, arith, fill_by_all, range_with_len, rate_at}

pub returns : Rattle.sim_stock.proofs.amounts.opening.Goals.returns
returns c =
    let pairs = c.args.pairs.now in
    let i = c.loop-place.invariant in
    let food : c.loop-place.food ≡ map (λ (place : ℕ). (rate_at pairs place).food) (range_with_len 0 8) =
    fill_by_all (λ (place : ℕ). (rate_at pairs place).food) c.loop-place.food 8 0 i.food_size (λ k lt. i.food k (omega (arith, lt))) in
    let metal : c.loop-place.metal ≡ map (λ (place : ℕ). (rate_at pairs place).metal) (range_with_len 0 8) =
    fill_by_all (λ (place : ℕ). (rate_at pairs place).metal) c.loop-place.metal 8 0 i.metal_size (λ k lt. i.metal k (omega (arith, lt))) in
    cc
