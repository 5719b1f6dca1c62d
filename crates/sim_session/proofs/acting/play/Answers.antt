-- What a client says that plays a turn goes up, and what it has come to is printed.
use Rattle.sim_session.proofs.Beside.{play_makes, play_small}
use Rattle.sim_session.proofs.Common.{All, has_happened, HasDigest, IsSmallUp, life_at, played_events, rules, Setup, subst, sym, ◌∙◌}
use Rattle.sim_session.proofs.acting.play.Goals as goal

pub played-requires-clause-told : goal.played-requires-clause-told
played-requires-clause-told g c =
    let new = c.play_beside.new.self in
    let made = c.in_ok-made.made in
    subst (λ (s : Setup). HasDigest s (life_at new.stage new.board) made.did made.digest) (sym c.in_ok-made.ensures.steps.keeps.setup)
    c.in_ok-made.ensures.digest

pub send-requires-clause-small : goal.send-requires-clause-small
send-requires-clause-small g c =
    let client = c.args.client.now in
    let new = c.play_beside.new.self in
    subst (All IsSmallUp) (sym (c.as_slice.ensures ∙ c.ups_of-ups.ensures))
    (play_small client.setup.now (life_at client.stage client.board) c.in_ok-made.made.did (life_at new.stage new.board) c.in_ok-made.ensures.steps.answers)

pub returns : goal.returns
returns g c =
    let client = c.args.client.now in
    let new = c.play_beside.new.self in
    let new_life = life_at new.stage new.board in
    record {
      made = play_makes client.setup.now c.args.number (life_at client.stage client.board) new_life c.args.exchange.now c.send.new.self
          c.in_ok-made.made.did c.in_ok-events.events
          c.in_ok-made.ensures.steps.answers
          (λ s acted conveys is. c.in_ok-send.ensures.stands client.setup.now s acted conveys (c.as_slice.ensures ∙ c.ups_of-ups.ensures ∙ is))
          (c.in_ok-events.ensures.events ∙ (λ i. played_events (c.in_ok-made.ensures.steps.keeps.setup i) c.args.number new_life
          (has_happened c.in_ok-made.made.did)));
      idle = search rules;
      sound = c.in_ok-made.ensures.steps.sound;
      kept = c.in_ok-made.ensures.steps.keeps.kept;
      setup = c.in_ok-made.ensures.steps.keeps.setup;
      rules = search rules;
    }
