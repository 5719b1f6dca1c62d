use Rattle.{sim_base.specs.Turn.gone, sim_plans.proofs.Answered.answered, sim_plans.proofs.CommandPlan.gone_plan_is, sim_plans.specs.Plans.gone_plan}

pub returns : Rattle.sim_attack.proofs.gone.gone_changes.Goals.returns
returns g c =
    let setup = c.args.scene.now.setup.now in
    let state = c.args.scene.now.state.now in
    answered c.removals.result setup state (gone state) (gone_plan state) c.removals.ensures (gone_plan_is setup state c.requires.valid)
