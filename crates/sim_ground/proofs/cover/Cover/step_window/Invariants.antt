use Rattle.sim_ground.{proofs.Common.in_rows, proofs.Common.◌≤◌, specs.Covering.Changes}

abbrev pub invariant-loop-z : Rattle.sim_ground.proofs.cover.Cover.step_window.Given.invariant-loop-z
invariant-loop-z l =
    record {
      from : l.window.south ≤ l.z;
      changes : Changes l.more (in_rows l.window.south l.z l.window.west l.window.east) l.turned l.initial.self l.self;
    }
