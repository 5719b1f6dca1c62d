use Rattle.{sim_base.specs.Turn.aimed, sim_plans.proofs.AimPlan.aim_plan_is, sim_plans.proofs.Answered.answered, sim_plans.specs.Plans.aim_plan}

pub returns : Rattle.sim_attack.proofs.aim.aim_changes.Goals.returns
returns g c =
    let setup = c.args.scene.now.setup.now in
    let state = c.args.scene.now.state.now in
    answered c.listed_aims.result setup state (aimed setup state) (aim_plan setup state) c.listed_aims.ensures (aim_plan_is setup state c.requires.valid)
