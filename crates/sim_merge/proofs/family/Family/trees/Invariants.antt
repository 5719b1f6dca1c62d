use Rattle.sim_merge.proofs.Common.{ℕ, ◌<◌, Has, IsKept, origins_of, roots_in}

abbrev pub invariant-loop-number : Rattle.sim_merge.proofs.family.Family.trees.Given.invariant-loop-number
invariant-loop-number l = record {
  kept : IsKept l.self.parents.now (roots_in (origins_of l.self.sources.now)) l.kept.items;
  has : (k : ℕ) → k < l.number → Has l.kept.items k;
}
