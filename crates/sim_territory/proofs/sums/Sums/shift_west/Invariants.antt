use Rattle.sim_territory.proofs.Common.{◌≤◌, in_part, share_where, SumsMove}

abbrev pub invariant-loop-x : Rattle.sim_territory.proofs.sums.Sums.shift_west.Given.invariant-loop-x
invariant-loop-x l = record {
  from : l.west ≤ l.x;
  moved : SumsMove l.comes (share_where (in_part l.z l.west l.x) l.it) l.initial.self l.self;
}
