-- One number more is counted.
use Rattle.std.proofs.Common.{◌≡◌, ℕ, ◌+◌, ◌<◌, ◌≢◌, List, length, get_or, set, arith, below_more, get_or-set_other, get_or-set_same, subst, sym, ◌∙◌}
use Rattle.std.proofs.lemmas.List.{length-set}

one_more : (f : ℕ → ℕ) (counts : List ℕ) (owner at n : ℕ) → length counts ≡ 9 → owner < 9 → at ≡ owner → n ≡ f owner
    → ((k : ℕ) → k < owner → get_or counts k 0 ≡ f k) → (k : ℕ) → k < owner + 1 → get_or (set counts at n) k 0 ≡ f k
one_more f counts owner at n full lt here is before =
    let within : owner < length counts = omega arith in
    subst (λ (i : ℕ). (k : ℕ) → k < owner + 1 → get_or (set counts i n) k 0 ≡ f k) (sym here)
    (below_more (λ (k : ℕ). get_or (set counts owner n) k 0 ≡ f k) owner
    (λ k h. (let other : k ≢ owner = omega arith in get_or-set_other counts owner k n 0 other) ∙ before k h)
    (get_or-set_same counts owner n 0 within ∙ is))

pub loop-owner-preserved : Rattle.sim_census.proofs.counts.counts_of.Goals.loop-owner-preserved
loop-owner-preserved c = record {
  full = length-set c.loop-owner.counts c.from.result c.count.result ∙ c.loop-owner.invariant.full;
  counted = one_more _ c.loop-owner.counts c.loop-owner.owner c.from.result c.count.result c.loop-owner.invariant.full c.loop-owner-test.true c.from.ensures
      c.count.ensures c.loop-owner.invariant.counted;
}
