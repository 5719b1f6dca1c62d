use Rattle.sim_territory.proofs.{Common.◌≤◌, Common.share_where, Common.SumsMove, Moving.in_rows}

abbrev pub invariant-loop-z : Rattle.sim_territory.proofs.sums.Sums.shift_building.Given.invariant-loop-z
invariant-loop-z l = record {
  from : l.south ≤ l.z;
  moved : SumsMove l.comes (share_where (in_rows l.south l.z) l.building) l.initial.self l.self;
}
