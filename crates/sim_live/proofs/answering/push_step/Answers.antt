-- The lines of just the events of the step.
use Rattle.std.{proofs.Common.List, proofs.Common.ap, proofs.Common.◌++◌, proofs.Common.◌∙◌, specs.Prelude.string_bytes}
use Rattle.{sim_base.specs.declared.step.Event.Event, sim_client.proofs.Standing.anyway, sim_session.proofs.Beside.then_on, sim_session.specs.Laws.lines_of}

pub returns-clause-text : Rattle.sim_live.proofs.answering.push_step.Goals.returns-clause-text
returns-clause-text g c =
    then_on c.push_events.result
    (λ told clients steps few stands.
    told ∙ ap (λ (events : List Event). string_bytes c.args.out.now ++ lines_of events) (c.in_ok-events.ensures.steps.printed clients steps few stands))
    c.push_events.ensures

pub returns-clause-follows : Rattle.sim_live.proofs.answering.push_step.Goals.returns-clause-follows
returns-clause-follows g c =
    record {
      stands = anyway c.push_events.result (λ clients steps few stands. c.in_ok-events.ensures.steps.stands clients steps few stands);
      goes = record { session = anyway c.push_events.result c.in_ok-events.ensures.goes.session; keeps = c.in_ok-events.ensures.goes.keeps };
    }
