-- One step more is made.
use Rattle.sim_session.proofs.recording.make_steps.Goals as goal
use Rattle.sim_session.proofs.TextCommon.{List, loads_in, opened, rules, seen_in, session as session_over, Setup, StandsFor, Step, Steps, subst, sym}
use Rattle.sim_session.proofs.{Builds.{all_built_so, built_by_then, keeps_on, step_built}, Loads.loads_are_own, MoreSteps.{loads_more, stands_more}}
use Rattle.sim_session.proofs.{NextClients.at_place, TextCommon.{ap, AreBuiltIf, arith, ChangeAt, client_of, Event, events, events_after, get_or, has_load}}
use Rattle.sim_session.proofs.TextCommon.{IsStep, length, length-map, systems_by, systems_on, take, true, ℕ, ◌+◌, ◌-◌, ◌<◌, ◌∙◌, ◌≡◌, ◌≤◌}

pub loop-step-preserved : goal.loop-step-preserved
loop-step-preserved g c =
    let l = c.loop-step in
    let was = l.invariant in
    let setup = c.args.session.now.setup.now in
    let active = c.args.list.now.clients in
    let steps = c.args.list.now.steps in
    let n = l.step-index in
    let step = c.step-item.result in
    let items_are = c.as_slice-step-items.ensures in
    let lt : n < length steps = search rules in
    let is = c.step-item.is ∙ ap (λ xs. get_or xs n step) items_are in
    let few : active ≤ setup.players = c.requires.list.clients.1 in
    let made = subst (λ (s : Setup). Steps s (seen_in l.session) step (seen_in c.step.new.self) c.in_ok-step.field-0) was.keeps.setup
    c.in_ok-step.ensures.steps in
    let printed = made.printed active (take n steps) few was.stands in
    let evs = c.in_ok-step.field-0 in
    let own = client_of step in
    let systems_were = systems_by l.session.clients.items (λ i v. (goal.System-dyn g (i, v)).meaning v) in
    let systems_are = systems_by c.step.new.self.clients.items (λ i v. (goal.System-dyn g (i, v)).meaning v) in
    let fits = at_place (IsStep setup.players) steps n step c.requires.list.steps lt is in
    let many = length-map l.session.clients.items (λ x. systems_on x.board (λ i v. (goal.System-dyn g (i, v)).meaning v)) ∙ was.session.count ∙
    ap (λ (s : Setup). s.players) was.keeps.setup in
    let loads = subst (λ (es : List Event). has_load es ≡ true → 1 ≤ loads_in es own) (sym printed)
    (loads_are_own setup (session_over setup active (take n steps)) step) in
    let before : List Event = events_after setup (opened setup active) (take n steps) in
    let behind : List Event = events_after setup (opened setup active) (take (n + 1) steps) in
    let made_now = step_built own setup.players evs systems_were systems_are (omega (arith, fits.client.0)) many loads c.in_ok-step.ensures.takes.built in
    record {
      session = c.in_ok-step.ensures.goes.session;
      stands = stands_more setup active n steps step (seen_in l.session) (seen_in c.step.new.self) c.in_ok-step.field-0 few lt is made was.stands;
      built = all_built_so (loads_in before) (loads_in evs) (loads_in behind) setup.players
          (systems_by c.args.session.now.clients.items (λ i v. (goal.System-dyn g (i, v)).meaning v)) systems_were systems_are
          (λ k. subst (λ (es : List Event). loads_in before k + loads_in es k ≤ loads_in behind k) (sym printed) (loads_more setup active n steps step k lt is))
          was.built made_now;
      keeps = keeps_on (λ i v. (goal.System-dyn g (i, v)).meaning v) c.args.session.now l.session c.step.new.self was.keeps c.in_ok-step.ensures.goes.keeps;
    }

pub returns-in_err-step : goal.returns-in_err-step
returns-in_err-step g c =
    let l = c.loop-step in
    let was = l.invariant in
    let setup = c.args.session.now.setup.now in
    let active = c.args.list.now.clients in
    let steps = c.args.list.now.steps in
    let n = l.step-index in
    let step = c.step-item.result in
    let lt : n < length steps = search rules in
    let is = c.step-item.is ∙ ap (λ xs. get_or xs n step) c.as_slice-step-items.ensures in
    let few : active ≤ setup.players = c.requires.list.clients.1 in
    let fits = at_place (IsStep setup.players) steps n step c.requires.list.steps lt is in
    let systems_were = systems_by l.session.clients.items (λ i v. (goal.System-dyn g (i, v)).meaning v) in
    let systems_are = systems_by c.step.new.self.clients.items (λ i v. (goal.System-dyn g (i, v)).meaning v) in
    let many = length-map l.session.clients.items (λ x. systems_on x.board (λ i v. (goal.System-dyn g (i, v)).meaning v)) ∙ was.session.count ∙
    ap (λ (s : Setup). s.players) was.keeps.setup in
    let loads = subst (λ (s : Setup). (active : ℕ) (steps : List Step) → active ≤ s.players → StandsFor s (seen_in l.session) (session_over s active steps)
    → ChangeAt (AreBuiltIf (has_load (events s (session_over s active steps) step))) (client_of step - 1) systems_were systems_are) was.keeps.setup
    c.step.ensures.takes.loads in
    record {
      stands = search rules;
      built = built_by_then setup active n steps step (systems_by c.args.session.now.clients.items (λ i v. (goal.System-dyn g (i, v)).meaning v))
          systems_were systems_are
          lt is (omega (arith, fits.client.0)) many was.built
          (loads active (take n steps) few was.stands);
      goes = record {
        session = search rules;
        keeps = keeps_on (λ i v. (goal.System-dyn g (i, v)).meaning v) c.args.session.now l.session c.step.new.self was.keeps c.step.ensures.goes.keeps;
      };
    }
