-- A client that is not off is off then, and the server saw it.
use Rattle.sim_session.proofs.{Beside.cut_makes, Beside.then_ok, Common.life_at, Common.rules, Common.sym, Common.◌∙◌}

pub returns-clause-acts : Rattle.sim_session.proofs.acting.cut.Goals.returns-clause-acts
returns-clause-acts g c =
    let client = c.args.client.now in
    let new = c.cut.new.self in
    record {
      made = then_ok c.one.result (λ events told. cut_makes client.setup.now c.args.number (life_at client.stage client.board) (life_at new.stage new.board)
          c.args.exchange.now c.cut-2.new.self events
          (sym c.is_off.ensures ∙ c.if-is_off.false) c.cut.ensures.off told (λ s conveys. c.in_ok-cut.ensures.stands client.setup.now s conveys)) c.one.ensures;
      idle = search rules;
      sound = search rules;
      kept = search rules;
      setup = search rules;
      rules = search rules;
    }
