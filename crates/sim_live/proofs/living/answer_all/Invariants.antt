-- Some lines were answered, and the session stands for that over their steps.
use Rattle.sim_live.proofs.living.answer_all.Given as goal
use Rattle.{sim_live.proofs.Answered.HasAnswered, sim_session.specs.Going.{IsSessionBy, KeepsBy, seen_in}, std.proofs.Common.◌≤◌}

abbrev pub invariant-loop-before : goal.invariant-loop-before
invariant-loop-before g l =
    record {
      answered : HasAnswered l.fn.session.setup.now l.clients (seen_in l.session) l.made l._before (g.T.Talk.history l.fn.talk) (g.T.Talk.history l.talk);
      few : l.made ≤ l._before;
      session : IsSessionBy l.session (λ i v. (goal.System-dyn g (i, v)).meaning v);
      keeps : KeepsBy (λ i v. (goal.System-dyn g (i, v)).meaning v) l.fn.session l.session;
    }
