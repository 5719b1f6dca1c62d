use Rattle.sim_range.proofs.Common.{◌≡◌, [], length, take, AreBuckets}

abbrev pub invariant-loop : Rattle.sim_range.proofs.buckets.buckets_of.Given.invariant-loop
invariant-loop l = (length l.all.items ≡ l.counter) × AreBuckets [] l.all.items

abbrev pub invariant-loop-fact : Rattle.sim_range.proofs.buckets.buckets_of.Given.invariant-loop-fact
invariant-loop-fact l = (length l.all.items ≡ 256) × AreBuckets (take l.fact-index l.facts) l.all.items
