-- The facts are held on the land.

pub invariant_of-result : Rattle.sim_range.proofs.range.Range.crowd_on.Goals.invariant_of-result
invariant_of-result c = rw c.as_slice.ensures.value (record { holds = c.args.self.now.kept.held c.args.land.now c.requires })
