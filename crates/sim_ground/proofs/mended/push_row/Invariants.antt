use Rattle.sim_ground.{proofs.Common.in_row, proofs.Common.label_in, proofs.Common.◌≤◌, specs.Mending.AddsTurned}

abbrev pub invariant-loop-x : Rattle.sim_ground.proofs.mended.push_row.Given.invariant-loop-x
invariant-loop-x l = record {
  from : l.fn.window.west ≤ l.x;
  adds : AddsTurned l.grid (label_in l.labels) (in_row l.z l.fn.window.west l.x) l.initial.cells.items l.cells.items;
}
