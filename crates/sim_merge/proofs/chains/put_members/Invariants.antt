use Rattle.sim_merge.proofs.Common.{◌≡◌, ℕ, ◌-◌, ◌<◌, ◌++◌, length, Some, chain_from, members}

abbrev pub invariant-loop-seen : Rattle.sim_merge.proofs.chains.put_members.Given.invariant-loop-seen
invariant-loop-seen l = record {
  chain : l.chain.items ++ chain_from l.parents (17 - l.seen) l.next ≡ members l.parents l.number;
  within : (member : ℕ) → l.next ≡ Some member → member < length l.parents;
}
