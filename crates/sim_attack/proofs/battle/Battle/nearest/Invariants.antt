use Rattle.sim_attack.{proofs.Nearer.least_first, specs.Finds.StandsFor}

abbrev pub invariant-loop-id : Rattle.sim_attack.proofs.battle.Battle.nearest.Given.invariant-loop-id
invariant-loop-id l = StandsFor l.self.state.now l.row l.best (least_first l.self.state.now l.row l.id-index l.ids)
