use Rattle.{sim_system.specs.Meanings.population_among, std.proofs.Common.{get_or, length, ℕ, ◌<◌, ◌≡◌}}

abbrev pub invariant-loop-owner : Rattle.sim_census.proofs.counts.counts_of.Given.invariant-loop-owner
invariant-loop-owner l = record {
  full : length l.counts ≡ 9;
  counted : (k : ℕ) → k < l.owner → get_or l.counts k 0 ≡ population_among l.facts k;
}
