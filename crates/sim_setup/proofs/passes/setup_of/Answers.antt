use Rattle.sim_setup.proofs.{Common.Meets, Common.rules, Common.setup_of as setup_of_bytes, LandLimits.meets-limits}

pub returns-clause-limits : Rattle.sim_setup.proofs.passes.setup_of.Goals.returns-clause-limits
returns-clause-limits c =
    let answers : Meets c.setup_in.result (setup_of_bytes c.args.bytes.now) = search rules in
    meets-limits c.args.bytes.now c.setup_in.result answers c.setup_in.ensures.templates
