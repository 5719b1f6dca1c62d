-- The session stands for that over the steps so far, and the text has the lines of their events.
use Rattle.sim_session.proofs.hosting.push_steps.Given as goal
use Rattle.sim_session.proofs.TextCommon.{AllBuiltAtMost, events_after, lines_of, loads_in, opened, seen_in, session as session_over, StandsFor, string_bytes}
use Rattle.sim_session.{proofs.TextCommon.{systems_by, take, ◌++◌, ◌≡◌}, specs.Going.{IsSessionBy, KeepsBy}}

abbrev pub invariant-loop-step : goal.invariant-loop-step
invariant-loop-step g l =
    record {
      session : IsSessionBy l.session (λ i v. (goal.System-dyn g (i, v)).meaning v);
      stands : StandsFor l.fn.session.setup.now (seen_in l.session) (session_over l.fn.session.setup.now l.list.clients (take l.step-index l.list.steps));
      text : string_bytes l.text ≡ string_bytes l.fn.text ++ lines_of (events_after l.fn.session.setup.now (opened l.fn.session.setup.now l.list.clients)
          (take l.step-index l.list.steps));
      built : AllBuiltAtMost (loads_in (events_after l.fn.session.setup.now (opened l.fn.session.setup.now l.list.clients) (take l.step-index l.list.steps)))
          l.fn.session.setup.now.players
          (systems_by l.fn.session.clients.items (λ i v. (goal.System-dyn g (i, v)).meaning v))
          (systems_by l.session.clients.items (λ i v. (goal.System-dyn g (i, v)).meaning v));
      keeps : KeepsBy (λ i v. (goal.System-dyn g (i, v)).meaning v) l.fn.session l.session;
    }
