-- The buckets are those of the facts.

pub invariant_of-crowd : Rattle.sim_range.proofs.ready.built_of.Goals.invariant_of-crowd
invariant_of-crowd c = rw c.as_slice.ensures.value (record {
  sorted = record {
    holds = c.args.held.now.holds;
    placed = c.requires;
    bucketed = c.in_ok-buckets.ensures.each;
    whole = c.in_ok-buckets.ensures.whole;
  };
})
