-- One step more is made, and the lines of its events stand behind those so far.
use Rattle.sim_session.proofs.hosting.push_steps.Goals as goal
use Rattle.sim_session.proofs.TextCommon.{ap, append_assoc, AreBuiltIf, arith, ChangeAt, client_of, Event, events, events_after, get_or, has_load, IsStep}
use Rattle.sim_session.proofs.TextCommon.{length, length-map, lines_of, List, loads_in, opened, rules, seen_in, session as session_over, Setup, StandsFor, Step}
use Rattle.sim_session.proofs.TextCommon.{sym, systems_by, systems_on, take, true, ℕ, ◌+◌, ◌-◌, ◌<◌, ◌∙◌, ◌≡◌, ◌≤◌}
use Rattle.sim_session.proofs.{Builds.all_built_so, Builds.built_by_then, Builds.keeps_on, Builds.step_built, Loads.loads_are_own, MoreSteps.lines_more}
use Rattle.sim_session.proofs.{MoreSteps.loads_more, MoreSteps.stands_more, NextClients.at_place, TextCommon.Steps, TextCommon.string_bytes, TextCommon.subst}

pub loop-step-preserved : goal.loop-step-preserved
loop-step-preserved g c =
    let l = c.loop-step in
    let was = l.invariant in
    let setup = c.args.session.now.setup.now in
    let active = c.args.list.now.clients in
    let steps = c.args.list.now.steps in
    let n = l.step-index in
    let step = c.step-item.result in
    let items_are = c.as_slice-step-items.ensures in
    let lt : n < length steps = search rules in
    let is = c.step-item.is ∙ ap (λ xs. get_or xs n step) items_are in
    let few : active ≤ setup.players = c.requires.list.clients.1 in
    let made = subst (λ (s : Setup). Steps s (seen_in l.session) step (seen_in c.step.new.self) c.in_ok-events.events) was.keeps.setup
    c.in_ok-events.ensures.steps in
    let printed = made.printed active (take n steps) few was.stands in
    let more = lines_more setup active n steps step lt is in
    let pushed = c.in_ok-push_events.ensures in
    let text = was.text in
    let evs = c.in_ok-events.events in
    let own = client_of step in
    let systems_were = systems_by l.session.clients.items (λ i v. (goal.System-dyn g (i, v)).meaning v) in
    let systems_are = systems_by c.step.new.self.clients.items (λ i v. (goal.System-dyn g (i, v)).meaning v) in
    let fits = at_place (IsStep setup.players) steps n step c.requires.list.steps lt is in
    let many = length-map l.session.clients.items (λ x. systems_on x.board (λ i v. (goal.System-dyn g (i, v)).meaning v)) ∙ was.session.count ∙
    ap (λ (s : Setup). s.players) was.keeps.setup in
    let loads = subst (λ (es : List Event). has_load es ≡ true → 1 ≤ loads_in es own) (sym printed)
    (loads_are_own setup (session_over setup active (take n steps)) step) in
    let before : List Event = events_after setup (opened setup active) (take n steps) in
    let behind : List Event = events_after setup (opened setup active) (take (n + 1) steps) in
    let made_now = step_built own setup.players evs systems_were systems_are (omega (arith, fits.client.0)) many loads c.in_ok-events.ensures.takes.built in
    let split = append_assoc (string_bytes c.args.text.now) (lines_of (events_after setup (opened setup active) (take n steps)))
    (lines_of (events setup (session_over setup active (take n steps)) step)) in
    record {
      session = c.in_ok-events.ensures.goes.session;
      stands = stands_more setup active n steps step (seen_in l.session) (seen_in c.step.new.self) c.in_ok-events.events few lt is made was.stands;
      text = cc;
      built = all_built_so (loads_in before) (loads_in evs) (loads_in behind) setup.players
          (systems_by c.args.session.now.clients.items (λ i v. (goal.System-dyn g (i, v)).meaning v)) systems_were systems_are
          (λ k. subst (λ (es : List Event). loads_in before k + loads_in es k ≤ loads_in behind k) (sym printed) (loads_more setup active n steps step k lt is))
          was.built made_now;
      keeps = keeps_on (λ i v. (goal.System-dyn g (i, v)).meaning v) c.args.session.now l.session c.step.new.self was.keeps c.in_ok-events.ensures.goes.keeps;
    }

pub returns-in_err-events-clause-passes : goal.returns-in_err-events-clause-passes
returns-in_err-events-clause-passes g c =
    let l = c.loop-step in
    let was = l.invariant in
    let setup = c.args.session.now.setup.now in
    let active = c.args.list.now.clients in
    let steps = c.args.list.now.steps in
    let n = l.step-index in
    let step = c.step-item.result in
    let lt : n < length steps = search rules in
    let is = c.step-item.is ∙ ap (λ xs. get_or xs n step) c.as_slice-step-items.ensures in
    let few : active ≤ setup.players = c.requires.list.clients.1 in
    let fits = at_place (IsStep setup.players) steps n step c.requires.list.steps lt is in
    let systems_were = systems_by l.session.clients.items (λ i v. (goal.System-dyn g (i, v)).meaning v) in
    let systems_are = systems_by c.step.new.self.clients.items (λ i v. (goal.System-dyn g (i, v)).meaning v) in
    let many = length-map l.session.clients.items (λ x. systems_on x.board (λ i v. (goal.System-dyn g (i, v)).meaning v)) ∙ was.session.count ∙
    ap (λ (s : Setup). s.players) was.keeps.setup in
    let loads = subst (λ (s : Setup). (active : ℕ) (steps : List Step) → active ≤ s.players → StandsFor s (seen_in l.session) (session_over s active steps)
    → ChangeAt (AreBuiltIf (has_load (events s (session_over s active steps) step))) (client_of step - 1) systems_were systems_are) was.keeps.setup
    c.step.ensures.takes.loads in
    record {
      stands = search rules;
      built = built_by_then setup active n steps step (systems_by c.args.session.now.clients.items (λ i v. (goal.System-dyn g (i, v)).meaning v))
          systems_were systems_are
          lt is (omega (arith, fits.client.0)) many was.built
          (loads active (take n steps) few was.stands);
      goes = record {
        session = search rules;
        keeps = keeps_on (λ i v. (goal.System-dyn g (i, v)).meaning v) c.args.session.now l.session c.step.new.self was.keeps c.step.ensures.goes.keeps;
      };
    }

pub returns-in_err-push_events-clause-passes : goal.returns-in_err-push_events-clause-passes
returns-in_err-push_events-clause-passes g c =
    let l = c.loop-step in
    let was = l.invariant in
    let setup = c.args.session.now.setup.now in
    let active = c.args.list.now.clients in
    let steps = c.args.list.now.steps in
    let n = l.step-index in
    let step = c.step-item.result in
    let lt : n < length steps = search rules in
    let is = c.step-item.is ∙ ap (λ xs. get_or xs n step) c.as_slice-step-items.ensures in
    let few : active ≤ setup.players = c.requires.list.clients.1 in
    let fits = at_place (IsStep setup.players) steps n step c.requires.list.steps lt is in
    let systems_were = systems_by l.session.clients.items (λ i v. (goal.System-dyn g (i, v)).meaning v) in
    let systems_are = systems_by c.step.new.self.clients.items (λ i v. (goal.System-dyn g (i, v)).meaning v) in
    let many = length-map l.session.clients.items (λ x. systems_on x.board (λ i v. (goal.System-dyn g (i, v)).meaning v)) ∙ was.session.count ∙
    ap (λ (s : Setup). s.players) was.keeps.setup in
    let loads = subst (λ (s : Setup). (active : ℕ) (steps : List Step) → active ≤ s.players → StandsFor s (seen_in l.session) (session_over s active steps)
    → ChangeAt (AreBuiltIf (has_load (events s (session_over s active steps) step))) (client_of step - 1) systems_were systems_are) was.keeps.setup
    c.step.ensures.takes.loads in
    record {
      stands = search rules;
      built = built_by_then setup active n steps step (systems_by c.args.session.now.clients.items (λ i v. (goal.System-dyn g (i, v)).meaning v))
          systems_were systems_are
          lt is (omega (arith, fits.client.0)) many was.built
          (loads active (take n steps) few was.stands);
      goes = record {
        session = search rules;
        keeps = keeps_on (λ i v. (goal.System-dyn g (i, v)).meaning v) c.args.session.now l.session c.step.new.self was.keeps c.step.ensures.goes.keeps;
      };
    }
