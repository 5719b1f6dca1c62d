use Rattle.sim_search.proofs.Common.{field_of_grid, Floods, is_none_late, Spreads, work_left}

abbrev pub invariant-loop-from : Rattle.sim_search.proofs.labels.fill.Given.invariant-loop-from
invariant-loop-from l = record {
  floods : Floods (field_of_grid l.grid) l.flood l.label is_none_late;
  spreads : Spreads l.fn.flood l.flood;
}

abbrev pub decreases-loop-from : Rattle.sim_search.proofs.labels.fill.Given.decreases-loop-from
decreases-loop-from l = work_left l.flood
