use Rattle.sim_merge.proofs.Common.{◌≡◌, ℕ, ◌<◌, false, is_endless, members}

abbrev pub invariant-loop-number : Rattle.sim_merge.proofs.chains.check_chains.Given.invariant-loop-number
invariant-loop-number l = (k : ℕ) → k < l.number → is_endless (members l.parents k) ≡ false
