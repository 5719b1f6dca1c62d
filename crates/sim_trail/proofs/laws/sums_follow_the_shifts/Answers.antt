use Rattle.sim_trail.proofs.Merging.{sum_follows}

pub returns : Rattle.sim_trail.proofs.laws.sums_follow_the_shifts.Goals.returns
returns c = sum_follows
