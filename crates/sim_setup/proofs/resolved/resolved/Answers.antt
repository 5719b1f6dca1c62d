use Rattle.sim_setup.proofs.SourceLimits.{all_layable}

pub resolve-requires-clause-layable : Rattle.sim_setup.proofs.resolved.resolved.Goals.resolve-requires-clause-layable
resolve-requires-clause-layable c = all_layable c.args.sources.now c.requires.ready
