-- A message is taken out of the pipe and heard, and what the client says goes up.
use Rattle.sim_session.proofs.{Beside.unbuilt, Heard.heard_built, Heard.heard_loads, Heard.heard_makes, Heard.heard_small, Heard.none_makes}
use Rattle.sim_session.proofs.Common.{All, refl, events_by, Falls, has_happened, has_load, heard_events, IsSmallUp, life_at, Makes, rules, subst, sym, ◌∙◌}
use Rattle.sim_base.specs.declared.step.Step.TheVariants as step
use Rattle.sim_session.proofs.hearing.down.Goals as goal

pub send-requires-clause-small : goal.send-requires-clause-small
send-requires-clause-small g c =
    let client = c.args.client.now in
    let setup = client.setup.now in
    let new = c.hear.new.self in
    let some = c.requires.some in
    subst (All IsSmallUp) (sym (c.as_slice.ensures ∙ c.ups_of-ups.ensures))
    (heard_small setup c.args.number some.0 (life_at client.stage client.board) c.in-Some.down c.in_ok-did.did (life_at new.stage new.board) c.args.exchange.now
    c.fall.new.self
    c.requires.acts.sound.limits some.1 some.2
    (λ s conveys. subst (λ read. Falls setup c.fall.new.self c.args.number s (s.downs c.args.number) read) c.in-Some.is
    (c.in_ok-down.ensures.stands setup s conveys))
    c.in_ok-did.ensures.answers)

-- ---- what is made, and what builds systems, also where memory was refused

pub returns-in_err-down-clause-loads : goal.returns-in_err-down-clause-loads
returns-in_err-down-clause-loads g c =
    let client = c.args.client.now in
    let setup = client.setup.now in
    record {
      made = search rules;
      sound = search rules;
      built = search rules;
      most = search rules;
      loads = λ s at. unbuilt (has_load (events_by setup s (step.Down c.args.number))) _;
      setup = search rules;
      rules = search rules;
    }

pub returns-in_default-clause-loads : goal.returns-in_default-clause-loads
returns-in_default-clause-loads g c =
    let client = c.args.client.now in
    let setup = client.setup.now in
    let life = life_at client.stage client.board in
    record {
      made = subst (λ events. Makes setup (step.Down c.args.number) life c.args.exchange.now life c.fall.new.self events) (sym c.new.ensures)
          (none_makes setup c.args.number life c.args.exchange.now c.fall.new.self
          (λ s conveys. subst (λ read. Falls setup c.fall.new.self c.args.number s (s.downs c.args.number) read) c.in_default.is
          (c.in_ok-down.ensures.stands setup s conveys)));
      sound = c.requires.acts.sound;
      built = search rules;
      most = search rules;
      loads = λ s at. unbuilt (has_load (events_by setup s (step.Down c.args.number))) _;
      setup = refl;
      rules = search rules;
    }

pub returns-in_err-did-clause-loads : goal.returns-in_err-did-clause-loads
returns-in_err-did-clause-loads g c =
    let client = c.args.client.now in
    let setup = client.setup.now in
    record {
      made = search rules;
      sound = search rules;
      built = search rules;
      most = search rules;
      loads = λ s at. heard_loads setup c.args.number s (life_at client.stage client.board) c.in-Some.down c.args.exchange.now c.fall.new.self _ _ at
          (λ s conveys. subst (λ read. Falls setup c.fall.new.self c.args.number s (s.downs c.args.number) read) c.in-Some.is
          (c.in_ok-down.ensures.stands setup s conveys))
          c.hear.ensures.kept c.hear.ensures.ends.most;
      setup = search rules;
      rules = search rules;
    }

pub returns-in_err-events-clause-loads : goal.returns-in_err-events-clause-loads
returns-in_err-events-clause-loads g c =
    let client = c.args.client.now in
    let setup = client.setup.now in
    record {
      made = search rules;
      sound = search rules;
      built = search rules;
      most = search rules;
      loads = λ s at. heard_loads setup c.args.number s (life_at client.stage client.board) c.in-Some.down c.args.exchange.now c.fall.new.self _ _ at
          (λ s conveys. subst (λ read. Falls setup c.fall.new.self c.args.number s (s.downs c.args.number) read) c.in-Some.is
          (c.in_ok-down.ensures.stands setup s conveys))
          c.hear.ensures.kept c.hear.ensures.ends.most;
      setup = search rules;
      rules = search rules;
    }

pub returns-in_err-send-clause-loads : goal.returns-in_err-send-clause-loads
returns-in_err-send-clause-loads g c =
    let client = c.args.client.now in
    let setup = client.setup.now in
    record {
      made = search rules;
      sound = search rules;
      built = search rules;
      most = search rules;
      loads = λ s at. heard_loads setup c.args.number s (life_at client.stage client.board) c.in-Some.down c.args.exchange.now c.fall.new.self _ _ at
          (λ s conveys. subst (λ read. Falls setup c.fall.new.self c.args.number s (s.downs c.args.number) read) c.in-Some.is
          (c.in_ok-down.ensures.stands setup s conveys))
          c.hear.ensures.kept c.hear.ensures.ends.most;
      setup = search rules;
      rules = search rules;
    }

pub returns-clause-loads : goal.returns-clause-loads
returns-clause-loads g c =
    let client = c.args.client.now in
    let setup = client.setup.now in
    let life = life_at client.stage client.board in
    let new = c.hear.new.self in
    let new_life = life_at new.stage new.board in
    let same = c.in_ok-did.ensures.ends.setup in
    let refusal = c.refusal_of-refusal.ensures in
    let state = c.is_state-is_state.ensures in
    let some = c.requires.some in
    let shown = c.in_ok-events.ensures ∙ (λ i. heard_events (same i) c.args.number new_life (refusal i) (state i) (has_happened c.in_ok-did.did)) in
    record {
      made = heard_makes setup c.args.number life c.in-Some.down c.in_ok-did.did new_life c.args.exchange.now c.fall.new.self
          c.send.new.self c.in_ok-events.events
          (λ s conveys. subst (λ read. Falls setup c.fall.new.self c.args.number s (s.downs c.args.number) read) c.in-Some.is
          (c.in_ok-down.ensures.stands setup s conveys))
          c.in_ok-did.ensures.answers shown
          (λ s acted conveys is. c.in_ok-send.ensures.stands setup s acted conveys (c.as_slice.ensures ∙ c.ups_of-ups.ensures ∙ is));
      sound = c.in_ok-did.ensures.ends.sound;
      built = heard_built setup c.args.number life c.in-Some.down c.in_ok-did.did new_life c.args.exchange.now c.fall.new.self
          c.send.new.self c.in_ok-events.events
          (λ s conveys. subst (λ read. Falls setup c.fall.new.self c.args.number s (s.downs c.args.number) read) c.in-Some.is
          (c.in_ok-down.ensures.stands setup s conveys))
          c.in_ok-did.ensures.answers shown
          some.0 _ _ some.1 some.2 c.in_ok-did.ensures.kept c.in_ok-did.ensures.ends.most;
      most = search rules;
      loads = λ s at. heard_loads setup c.args.number s (life_at client.stage client.board) c.in-Some.down c.args.exchange.now c.fall.new.self _ _ at
          (λ s conveys. subst (λ read. Falls setup c.fall.new.self c.args.number s (s.downs c.args.number) read) c.in-Some.is
          (c.in_ok-down.ensures.stands setup s conveys))
          c.hear.ensures.kept c.hear.ensures.ends.most;
      setup = c.in_ok-did.ensures.ends.setup;
      rules = search rules;
    }
