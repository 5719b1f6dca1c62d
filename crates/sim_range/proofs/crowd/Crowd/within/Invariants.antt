use Rattle.sim_range.proofs.Common.{IsPermutation, below_bucket, within_among}

abbrev pub invariant-loop-number : Rattle.sim_range.proofs.crowd.Crowd.within.Given.invariant-loop-number
invariant-loop-number l = IsPermutation (within_among (below_bucket l.number l.self.held.facts.now) l.circle.at l.circle.radius l.circle.mask) l.ids.items
