use Rattle.sim_territory.proofs.Common.{◌≡◌, ◌+◌, ◌*◌, vec_len, AreFound}

abbrev pub invariant-loop-x : Rattle.sim_territory.proofs.sums.Sums.find_row.Given.invariant-loop-x
invariant-loop-x l = record {
  full : vec_len l.holders ≡ l.self.width * l.self.depth;
  found : AreFound l.self (l.fn.columns.0, l.x) (l.z, l.z + 1) l.initial.holders.items l.holders.items;
}
