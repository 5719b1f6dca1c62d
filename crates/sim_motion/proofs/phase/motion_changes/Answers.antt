use Rattle.{sim_base.specs.Turn.moved, sim_plans.proofs.Answered.answered, sim_plans.proofs.MovePlan.move_plan_is, sim_plans.specs.Plans.move_plan}

pub returns : Rattle.sim_motion.proofs.phase.motion_changes.Goals.returns
returns g c =
    let setup = c.args.scene.now.setup.now in
    let state = c.args.scene.now.state.now in
    answered c.listed_moves.result setup state (moved setup state) (move_plan setup state) c.listed_moves.ensures (move_plan_is setup state c.requires.valid)
