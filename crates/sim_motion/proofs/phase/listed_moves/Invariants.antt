use Rattle.{sim_plans.specs.Plans.move_changes_of, std.proofs.Common.◌≡◌, std.proofs.Common.take, std.proofs.Common.flat_map}

abbrev pub invariant-loop-row : Rattle.sim_motion.proofs.phase.listed_moves.Given.invariant-loop-row
invariant-loop-row g l = l.changes ≡ flat_map (move_changes_of l.scene.setup.now l.scene.state.now) (take l.row-index l.scene.state.now.rows)
