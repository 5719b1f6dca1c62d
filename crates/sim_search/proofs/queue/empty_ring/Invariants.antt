use Rattle.sim_search.proofs.Common.{◌≡◌, [], replicate}

abbrev pub invariant-loop : Rattle.sim_search.proofs.queue.empty_ring.Given.invariant-loop
invariant-loop l = l.buckets.items ≡ replicate l.counter []
