use Rattle.sim_search.proofs.Common.{◌≡◌, ℕ, ◌<◌, [], get_or}

abbrev pub invariant-loop-b : Rattle.sim_search.proofs.queue.empty_all.Given.invariant-loop-b
invariant-loop-b l = record {
  ring : l.buckets.len ≡ 32;
  empty : (k : ℕ) → k < l.b → get_or l.buckets.items k [] ≡ [];
}
