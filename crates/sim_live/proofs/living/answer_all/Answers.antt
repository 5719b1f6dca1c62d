-- Each line is heard, and then its answer is told.
use Rattle.sim_talk.specs.declared.fault.TalkFault.TheVariants as ends
use Rattle.sim_live.proofs.living.answer_all.Goals as goal
use Rattle.sim_live.{proofs.Answered.{all_answered, answered_line, answered_nothing, stands_some, unheard_line, unmade_line, untold_line}, specs.Live.answer}
use Rattle.{sim_session.{proofs.Builds.{keeps_on, kept}, specs.Going.seen_in}, sim_talk.specs.Talks.{Extends, heard, Hears}}
use Rattle.std.proofs.Common.{ap, arith, Err, false, List, Ok, rules, subst, sym, true, ℕ, [], ◌∙◌, ◌∷◌, ◌≡◌}

pub loop-before-init : goal.loop-before-init
loop-before-init g c = record {
  answered = answered_nothing c.args.session.now.setup.now c.args.clients (seen_in c.args.session.now) _ c.requires.opened;
  few = omega arith;
  session = c.requires.session;
  keeps = kept (λ i v. (goal.System-dyn g (i, v)).meaning v) c.args.session.now c.requires.session.finish;
}

pub answer-requires-clause-on : goal.answer-requires-clause-on
answer-requires-clause-on g c =
    record {
      session = c.loop-before.invariant.session;
      some = stands_some c.args.session.now.setup.now c.loop-before.session.setup.now c.args.clients (seen_in c.loop-before.session) _ _ _ _
          c.loop-before.invariant.answered
          c.loop-before.invariant.keeps.setup c.requires.clients;
    }

pub returns-in_err-hear-clause-answers : goal.returns-in_err-hear-clause-answers
returns-in_err-hear-clause-answers g c =
    let is : c.from_residual.result ≡ Err c.in_err-hear.field-0.0 = search rules in
    unheard_line c.args.session.now.setup.now c.args.clients (seen_in c.loop-before.session) (seen_in c.loop-before.session) c.loop-before.made
    c.loop-before._before _ c.in_err-hear.field-0.0 c.hear.new.line.items _ _ _ c.loop-before.invariant.answered is c.in_err-hear.ensures

pub returns-then-not-branch-clause-answers : goal.returns-then-not-branch-clause-answers
returns-then-not-branch-clause-answers g c =
    let off : c.in_ok-hear.field-0 ≡ false = search rules in
    let end = subst (λ b. Hears (Ok b) c.hear.new.line.items (g.T.Talk.history c.loop-before.talk) (g.T.Talk.history c.hear.new.self)) off
    c.in_ok-hear.ensures in
    all_answered c.args.session.now.setup.now c.args.clients (seen_in c.loop-before.session) c.loop-before.made c.loop-before._before _ _ _ _
    c.loop-before.invariant.answered end.0 end.1

pub returns-in_err-text-clause-answers : goal.returns-in_err-text-clause-answers
returns-in_err-text-clause-answers g c =
    let is : c.from_residual-in_err-text.result ≡ Err ends.OutOfMemory = search rules in
    let on : c.in_ok-hear.field-0 ≡ true = search rules in
    let one = subst (λ b. Hears (Ok b) c.hear.new.line.items (g.T.Talk.history c.loop-before.talk) (g.T.Talk.history c.hear.new.self)) on
    c.in_ok-hear.ensures in
    unmade_line c.args.session.now.setup.now c.args.clients (seen_in c.loop-before.session) (seen_in c.answer.new.session) c.loop-before.made
    c.loop-before._before _ c.hear.new.line.items _ _ _ c.loop-before.invariant.answered is one

pub returns-in_err-tell-clause-answers : goal.returns-in_err-tell-clause-answers
returns-in_err-tell-clause-answers g c =
    let is : c.from_residual-in_err-tell.result ≡ Err ends.Untold = search rules in
    let on : c.in_ok-hear.field-0 ≡ true = search rules in
    let one = subst (λ b. Hears (Ok b) c.hear.new.line.items (g.T.Talk.history c.loop-before.talk) (g.T.Talk.history c.hear.new.self)) on
    c.in_ok-hear.ensures in
    untold_line c.args.session.now.setup.now c.loop-before.session.setup.now c.args.clients (seen_in c.loop-before.session) (seen_in c.answer.new.session)
    c.loop-before.made c.loop-before._before _ c.hear.new.line.items c.as_bytes.result.now c.in_err-tell.field-0.0 _ _ _ _ c.loop-before.invariant.answered
    c.loop-before.invariant.keeps.setup c.requires.clients is
    (λ clients steps few made stands. c.as_bytes.ensures.value ∙ c.in_ok-text.ensures.text clients steps few made stands
    ∙ ap (λ (line : List ℕ). answer c.loop-before.session.setup.now clients steps line) c.deref.ensures.value)
    one c.in_err-tell.ensures

pub loop-before-preserved : goal.loop-before-preserved
loop-before-preserved g c =
    let on : c.in_ok-hear.field-0 ≡ true = search rules in
    let one = subst (λ b. Hears (Ok b) c.hear.new.line.items (g.T.Talk.history c.loop-before.talk) (g.T.Talk.history c.hear.new.self)) on
    c.in_ok-hear.ensures in
    let was = c.loop-before.invariant in
    record {
      answered = answered_line c.args.session.now.setup.now c.loop-before.session.setup.now c.args.clients (seen_in c.loop-before.session)
          (seen_in c.answer.new.session) c.loop-before.made c.in_ok-text.count c.loop-before._before c.deref.result.now c.as_bytes.result.now _ _ _ _
          was.answered was.keeps.setup c.requires.clients
          (subst (λ (line : List ℕ). Extends (g.T.Talk.history c.loop-before.talk) (g.T.Talk.history c.hear.new.self) (heard line ∷ []))
          (sym c.deref.ensures.value) one)
          c.in_ok-tell.ensures
          (λ clients steps few made stands. c.as_bytes.ensures.value ∙ c.in_ok-text.ensures.text clients steps few made stands)
          c.in_ok-text.ensures.count.count c.in_ok-text.ensures.follows.stands;
      few = omega (arith, c.in_ok-text.ensures.count.few, was.few);
      session = c.in_ok-text.ensures.follows.goes.session;
      keeps = keeps_on (λ i v. (goal.System-dyn g (i, v)).meaning v) c.args.session.now c.loop-before.session c.answer.new.session was.keeps
          c.in_ok-text.ensures.follows.goes.keeps;
    }

pub returns-in_err-text-clause-goes : goal.returns-in_err-text-clause-goes
returns-in_err-text-clause-goes g c =
    record {
      session = search rules;
      keeps = keeps_on (λ i v. (goal.System-dyn g (i, v)).meaning v) c.args.session.now c.loop-before.session c.answer.new.session c.loop-before.invariant.keeps
          c.answer.ensures.follows.goes.keeps;
    }

pub returns-in_err-tell-clause-goes : goal.returns-in_err-tell-clause-goes
returns-in_err-tell-clause-goes g c =
    record {
      session = search rules;
      keeps = keeps_on (λ i v. (goal.System-dyn g (i, v)).meaning v) c.args.session.now c.loop-before.session c.answer.new.session c.loop-before.invariant.keeps
          c.in_ok-text.ensures.follows.goes.keeps;
    }
