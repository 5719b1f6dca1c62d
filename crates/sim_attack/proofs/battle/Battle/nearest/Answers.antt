use Rattle.sim_attack.{proofs.Nearer.least_first, proofs.Nearer.nearer_more, specs.Finds.StandsFor, specs.declared.aim.Candidate.Candidate}
use Rattle.std.proofs.Common.{arith, get_or, length, refl, Some, subst, sym, ◌+◌, ◌<◌}

pub loop-id-preserved : Rattle.sim_attack.proofs.battle.Battle.nearest.Goals.loop-id-preserved
loop-id-preserved c =
    let state = c.args.self.now.state.now in
    let row = c.args.row.now in
    let ids = c.args.ids.now in
    let n = c.loop-id.id-index in
    let lt : n < length ids = omega arith in
    subst (λ (seen : Candidate). StandsFor state row (Some seen) (least_first state row (n + 1) ids)) (sym c.better.ensures)
    (nearer_more state row ids n (get_or ids n 0) c.square_to-far.result c.loop-id.best lt refl c.square_to-far.ensures c.loop-id.invariant)
