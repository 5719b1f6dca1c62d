use Rattle.{sim_base.specs.Turn.hit, sim_plans.proofs.Answered.answered, sim_plans.proofs.RowByRow.hit_plan_is, sim_plans.specs.Plans.hit_plan}

pub returns : Rattle.sim_attack.proofs.hit.hit_changes.Goals.returns
returns g c =
    let setup = c.args.scene.now.setup.now in
    let state = c.args.scene.now.state.now in
    answered c.listed_hits.result setup state (hit setup state) (hit_plan setup state) c.listed_hits.ensures (hit_plan_is setup state c.requires.valid)
