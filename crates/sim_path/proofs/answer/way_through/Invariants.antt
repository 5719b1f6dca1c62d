use Rattle.sim_path.proofs.Common.{◌≡◌, take, waypoints}

abbrev pub invariant-loop-cell : Rattle.sim_path.proofs.answer.way_through.Given.invariant-loop-cell
invariant-loop-cell l = l.points.items ≡ waypoints l.goal (take l.cell-index l.trip.cells.now)
