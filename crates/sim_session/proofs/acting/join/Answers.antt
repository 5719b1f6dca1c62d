-- The wish of a client goes up.
use Rattle.sim_session.proofs.{Beside.join_makes, Beside.join_small, Idling.nothing_said}
use Rattle.sim_session.proofs.Common.{◌≡◌, IfOk, All, anyway, IsSmallUp, joins, life_at, said_events, subst, sym, ◌∙◌}

pub tell-requires-clause-small : Rattle.sim_session.proofs.acting.join.Goals.tell-requires-clause-small
tell-requires-clause-small g c =
    let client = c.args.client.now in
    let new = c.join.new.self in
    subst (All IsSmallUp) (sym (c.as_slice.ensures ∙ c.ups_of-ups.ensures))
    (join_small (life_at client.stage client.board) c.in_ok-did.did (life_at new.stage new.board) c.in_ok-did.ensures.answers)

pub returns : Rattle.sim_session.proofs.acting.join.Goals.returns
returns g c =
    let client = c.args.client.now in
    let new = c.join.new.self in
    let old_life = life_at client.stage client.board in
    let said = c.as_slice.ensures ∙ c.ups_of-ups.ensures in
    record {
      made = join_makes client.setup.now c.args.number old_life (life_at new.stage new.board) c.args.exchange.now c.tell.new.exchange
          c.in_ok-did.did c.tell.result
          c.in_ok-did.ensures.answers (λ s acted conveys is. c.tell.ensures.sent client.setup.now s acted conveys (said ∙ is))
          (subst (λ ups. IfOk c.tell.result (λ events. events ≡ said_events c.args.number ups)) said c.tell.ensures.printed);
      idle = λ none.
          c.tell.ensures.none (said ∙ nothing_said (joins old_life) old_life c.in_ok-did.did (life_at new.stage new.board)
          c.in_ok-did.ensures.answers none);
      sound = anyway c.tell.result c.in_ok-did.ensures.sound;
      kept = c.in_ok-did.ensures.keeps.kept;
      setup = c.in_ok-did.ensures.keeps.setup;
      rules = c.tell.ensures.rules;
    }
