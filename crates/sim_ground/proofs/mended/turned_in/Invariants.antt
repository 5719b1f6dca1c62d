use Rattle.sim_ground.{proofs.Common.[], proofs.Common.in_rows, proofs.Common.label_in, proofs.Common.◌≤◌, specs.Mending.AddsTurned}

abbrev pub invariant-loop-z : Rattle.sim_ground.proofs.mended.turned_in.Given.invariant-loop-z
invariant-loop-z l = record {
  from : l.window.south ≤ l.z;
  adds : AddsTurned l.grid (label_in l.labels) (in_rows l.window.south l.z l.window.west l.window.east) [] l.cells.items;
}
