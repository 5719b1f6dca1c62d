use Rattle.sim_territory.proofs.Common.{◌≡◌, ◌*◌, vec_len, AreFound}

abbrev pub invariant-loop-z : Rattle.sim_territory.proofs.sums.Sums.find_holders.Given.invariant-loop-z
invariant-loop-z l = record {
  full : vec_len l.holders ≡ l.self.width * l.self.depth;
  found : AreFound l.self l.columns (l.fn.rows.0, l.z) l.initial.holders.items l.holders.items;
}
