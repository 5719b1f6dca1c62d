-- What is answered to each of the three.
use Rattle.sim_live.proofs.answering.push_answer.Goals as goal
use Rattle.sim_live.proofs.Asked.{look_counted, look_told, other_counted, other_told, step_counted, step_told}
use Rattle.{sim_live.specs.Live.steps_with, sim_live.specs.declared.line.Line.Line, sim_plain_session.specs.Sessions.session, sim_session.proofs.Builds.kept}
use Rattle.{sim_session.specs.Going.seen_in, sim_session.specs.Standing.StandsFor, std.proofs.Common.arith, std.proofs.Common.subst, std.proofs.Common.sym}

pub returns-in_ok-push_ok-in-Step-clause-text : goal.returns-in_ok-push_ok-in-Step-clause-text
returns-in_ok-push_ok-in-Step-clause-text g c = λ clients steps few counted stands.
    step_told c.args.session.now.setup.now clients steps _ c.args.made c.args.asked.now _ _ _ c.in-Step.is counted
    (c.in_ok-push_step-in-Step.ensures.text clients steps few stands) c.in_ok-push_ok-in-Step.ensures.ok

pub returns-in_ok-push_ok-in-Step-clause-count : goal.returns-in_ok-push_ok-in-Step-clause-count
returns-in_ok-push_ok-in-Step-clause-count g c =
    record { count = λ steps counted. step_counted steps _ c.args.made c.args.asked.now c.in-Step.is counted; few = omega arith }

pub returns-in_ok-push_ok-in-Step-clause-follows : goal.returns-in_ok-push_ok-in-Step-clause-follows
returns-in_ok-push_ok-in-Step-clause-follows g c =
    let followed = c.in_ok-push_step-in-Step.ensures.follows in
    record {
      stands = λ clients steps few stands.
          subst (λ (l : Line). StandsFor c.args.session.now.setup.now (seen_in c.push_step.new.session)
          (session c.args.session.now.setup.now clients (steps_with steps l)))
          (sym c.in-Step.is) (followed.stands clients steps few stands);
      goes = record { session = followed.goes.session; keeps = followed.goes.keeps };
    }

pub returns-in_ok-push_ok-in-Look-clause-text : goal.returns-in_ok-push_ok-in-Look-clause-text
returns-in_ok-push_ok-in-Look-clause-text g c = λ clients steps few counted stands.
    look_told c.args.session.now.setup.now clients steps _ c.args.made c.args.asked.now _ _ _ c.in-Look.is counted
    (c.in_ok-push_look-in-Look.ensures (session c.args.session.now.setup.now clients steps) stands) c.in_ok-push_ok-in-Look.ensures.ok

pub returns-in_ok-push_ok-in-Look-clause-count : goal.returns-in_ok-push_ok-in-Look-clause-count
returns-in_ok-push_ok-in-Look-clause-count g c =
    record { count = λ steps counted. look_counted steps _ c.args.made c.args.asked.now c.in-Look.is counted; few = omega arith }

pub returns-in_ok-push_ok-in-Look-clause-follows : goal.returns-in_ok-push_ok-in-Look-clause-follows
returns-in_ok-push_ok-in-Look-clause-follows g c =
    let own = c.requires.on.session in
    record {
      stands = λ clients steps few stands.
          subst (λ (l : Line). StandsFor c.args.session.now.setup.now (seen_in c.args.session.now)
          (session c.args.session.now.setup.now clients (steps_with steps l)))
          (sym c.in-Look.is) stands;
      goes = record { session = own; keeps = kept (λ i v. (goal.System-dyn g (i, v)).meaning v) c.args.session.now own.finish };
    }

pub returns-in_ok-push_refused-in-Other-clause-text : goal.returns-in_ok-push_refused-in-Other-clause-text
returns-in_ok-push_refused-in-Other-clause-text g c = λ clients steps few counted stands.
    other_told c.args.session.now.setup.now clients steps c.args.made c.args.asked.now _ _ c.in-Other.is counted c.in_ok-push_refused-in-Other.ensures.ok

pub returns-in_ok-push_refused-in-Other-clause-count : goal.returns-in_ok-push_refused-in-Other-clause-count
returns-in_ok-push_refused-in-Other-clause-count g c =
    record { count = λ steps counted. other_counted steps c.args.made c.args.asked.now c.in-Other.is counted; few = omega arith }

pub returns-in_ok-push_refused-in-Other-clause-follows : goal.returns-in_ok-push_refused-in-Other-clause-follows
returns-in_ok-push_refused-in-Other-clause-follows g c =
    let own = c.requires.on.session in
    record {
      stands = λ clients steps few stands.
          subst (λ (l : Line). StandsFor c.args.session.now.setup.now (seen_in c.args.session.now)
          (session c.args.session.now.setup.now clients (steps_with steps l)))
          (sym c.in-Other.is) stands;
      goes = record { session = own; keeps = kept (λ i v. (goal.System-dyn g (i, v)).meaning v) c.args.session.now own.finish };
    }
