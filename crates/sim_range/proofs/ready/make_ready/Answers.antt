-- The buckets are lent as they are.

pub make_ready-requires : Rattle.sim_range.proofs.ready.make_ready.Goals.make_ready-requires
make_ready-requires c = rw c.as_slice.ensures.value c.requires
