use Rattle.sim_path.{proofs.{AwaySteps.spread-one, Common.{Cell, List, size_of_marks, subst, sym}}, specs.Questions.IsSpread}

pub returns-in_ok-push-clause-spread : Rattle.sim_path.proofs.live.mark.Goals.returns-in_ok-push-clause-spread
returns-in_ok-push-clause-spread c =
    let old = c.args.live.now in
    let next = c.set.new.self in
    subst (λ (l : List Cell). IsSpread (size_of_marks old) old next c.args.list.now.items l) (sym c.in_ok-push.ensures.items)
    (spread-one old next c.args.list.now.items c.args.cell c.set.ensures c.requires.cell_on c.requires.on)
