use Rattle.sim_search.proofs.Common.{inr, subst, ◌∙◌}
use Rattle.sim_search.proofs.Common.{◌≡◌, ℕ, ◌+◌, ◌<◌, ◌≤◌, ◌⊎◌, List, [], length, get_or, set, arith, cases_lt, Cell, get_or-set_other, get_or-set_same, inl}

-- where all buckets before one are empty, and it is emptied, all before the next are empty
emptied_more : (xs : List (List Cell)) (b : ℕ) (new : List Cell) → new ≡ [] → b < length xs → ((k : ℕ) → k < b → get_or xs k [] ≡ []) → (k : ℕ) → k < b + 1
    → get_or (set xs b new) k [] ≡ []
emptied_more xs b new e within before k less = by (cases_lt k b)
  where
    by : (k < b) ⊎ (b ≤ k) → get_or (set xs b new) k [] ≡ []
    by (inl lt) = get_or-set_other xs b k new [] (λ f. omega (arith, f, lt)) ∙ before k lt
    by (inr le) = subst (λ (j : ℕ). get_or (set xs b new) j [] ≡ []) (omega arith) (get_or-set_same xs b new [] within ∙ e)

pub loop-b-preserved : Rattle.sim_search.proofs.queue.empty_all.Goals.loop-b-preserved
loop-b-preserved c =
    let within : c.loop-b.b < length c.loop-b.buckets.items = omega (arith, c.loop-b.invariant.ring, c.loop-b.buckets.ok.0, c.loop-b-test.true) in
    record {
      ring = c.loop-b.invariant.ring;
      empty = emptied_more c.loop-b.buckets.items c.loop-b.b c.empty.new.bucket c.empty.ensures within c.loop-b.invariant.empty;
    }
