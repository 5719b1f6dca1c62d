use Rattle.sim_range.proofs.Common.{◌≡◌, ◌++◌, take, within_among}

abbrev pub invariant-loop-fact : Rattle.sim_range.proofs.within.push_near.Given.invariant-loop-fact
invariant-loop-fact l = l.ids.items ≡ l.initial.ids.items ++ within_among (take l.fact-index l.facts) l.circle.at l.circle.radius l.circle.mask
