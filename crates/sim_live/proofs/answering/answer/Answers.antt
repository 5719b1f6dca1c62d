-- What a line asks for is read first, and then answered.
use Rattle.sim_live.proofs.answering.answer.Goals as goal
use Rattle.{sim_base.specs.declared.setup.Setup.Setup, sim_live.specs.{declared.line.Line.Line, Live.{answer_to, IsLine, line_of, steps_with}}}
use Rattle.{sim_plain_session.specs.Sessions.session, sim_session.specs.{Going.seen_in, Standing.StandsFor}}
use Rattle.std.proofs.Common.{ap, length, List, subst, ℕ, ◌++◌, ◌∙◌, ◌≡◌}

pub push_answer-requires-clause-line : goal.push_answer-requires-clause-line
push_answer-requires-clause-line g c =
    subst (λ (s : Setup). IsLine s.players c.in_ok-asked.asked) c.setup.ensures c.in_ok-asked.ensures.limits

pub returns-clause-text : goal.returns-clause-text
returns-clause-text g c = λ clients steps few counted stands.
    let asked : c.in_ok-asked.asked ≡ line_of c.args.session.now.setup.now.players c.args.line.now =
    c.in_ok-asked.ensures.value ∙ ap (λ (s : Setup). line_of s.players c.args.line.now) c.setup.ensures in
    c.in_ok-count.ensures.text clients steps few counted stands
    ∙ ap (λ (t : List ℕ). t ++ answer_to c.args.session.now.setup.now clients steps c.in_ok-asked.asked) c.new-text.ensures.bytes
    ∙ ap (answer_to c.args.session.now.setup.now clients steps) asked

pub returns-clause-count : goal.returns-clause-count
returns-clause-count g c =
    let asked : c.in_ok-asked.asked ≡ line_of c.args.session.now.setup.now.players c.args.line.now =
    c.in_ok-asked.ensures.value ∙ ap (λ (s : Setup). line_of s.players c.args.line.now) c.setup.ensures in
    record {
      count = λ steps counted. c.in_ok-count.ensures.count.count steps counted ∙ ap (λ (l : Line). length (steps_with steps l)) asked;
      few = c.in_ok-count.ensures.count.few;
    }

pub returns-clause-follows : goal.returns-clause-follows
returns-clause-follows g c =
    let asked : c.in_ok-asked.asked ≡ line_of c.args.session.now.setup.now.players c.args.line.now =
    c.in_ok-asked.ensures.value ∙ ap (λ (s : Setup). line_of s.players c.args.line.now) c.setup.ensures in
    let followed = c.in_ok-count.ensures.follows in
    record {
      stands = λ clients steps few stands.
          subst (λ (l : Line). StandsFor c.args.session.now.setup.now (seen_in c.push_answer.new.session)
          (session c.args.session.now.setup.now clients (steps_with steps l))) asked (followed.stands clients steps few stands);
      goes = record { session = followed.goes.session; keeps = followed.goes.keeps };
    }
