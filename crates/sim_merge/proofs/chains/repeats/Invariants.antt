use Rattle.sim_merge.proofs.Common.{◌≡◌, length, repeats}

abbrev pub invariant-loop-rest : Rattle.sim_merge.proofs.chains.repeats.Given.invariant-loop-rest
invariant-loop-rest l = repeats l.rest ≡ repeats l.chain

abbrev pub decreases-loop-rest : Rattle.sim_merge.proofs.chains.repeats.Given.decreases-loop-rest
decreases-loop-rest l = length l.rest
