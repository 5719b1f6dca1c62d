use Rattle.sim_merge.proofs.Common.{length, members}

abbrev pub decreases-keep : Rattle.sim_merge.proofs.family.Family.+keep.Given.decreases-keep
decreases-keep l = length (members l.self.now.parents.now l.number)
