use Rattle.sim_ground.{proofs.Common.in_row, proofs.Common.◌≤◌, specs.Covering.Changes}

abbrev pub invariant-loop-x : Rattle.sim_ground.proofs.cover.Cover.step_row.Given.invariant-loop-x
invariant-loop-x l =
    record {
      from : l.fn.window.west ≤ l.x;
      changes : Changes l.more (in_row l.z l.fn.window.west l.x) l.turned l.initial.self l.self;
    }
