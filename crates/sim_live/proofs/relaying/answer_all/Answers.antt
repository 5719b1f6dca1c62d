-- Each line is heard, and then its answer is told.
use Rattle.sim_live.{proofs.Relayed.{all_relayed, answered_line, answered_nothing, unheard_relayed, unmade_relayed, untold_relayed}, specs.Relays.answer}
use Rattle.{sim_talk.specs.Talks.{Extends, heard, Hears}, std.proofs.Common.{ap, arith, Err, false, List, Ok, rules, subst, sym, true, ℕ, [], ◌∙◌, ◌∷◌, ◌≡◌}}
use Rattle.sim_talk.specs.declared.fault.TalkFault.TheVariants as ends
use Rattle.sim_live.proofs.relaying.answer_all.Goals as goal

pub loop-before-init : goal.loop-before-init
loop-before-init g c = record {
  answered = answered_nothing c.args.rules c.args.server.now _ c.requires.rules c.requires.opened;
  few = omega arith;
  small = c.requires.small;
}

pub returns-in_err-hear : goal.returns-in_err-hear
returns-in_err-hear g c =
    let is : c.from_residual.result ≡ Err c.in_err-hear.field-0.0 = search rules in
    record {
      answers = unheard_relayed c.args.rules c.loop-before.server c.loop-before.server c.loop-before.heard c.loop-before._before _ c.in_err-hear.field-0.0
          c.hear.new.line.items _ _ _ c.loop-before.invariant.answered is c.in_err-hear.ensures;
    }

pub returns-then-not-branch : goal.returns-then-not-branch
returns-then-not-branch g c =
    let off : c.in_ok-hear.field-0 ≡ false = search rules in
    let end = subst (λ b. Hears (Ok b) c.hear.new.line.items (g.T.Talk.history c.loop-before.talk) (g.T.Talk.history c.hear.new.self)) off
    c.in_ok-hear.ensures in
    record {
      answers = all_relayed c.args.rules c.loop-before.server c.loop-before.heard c.loop-before._before _ _ _ _ c.loop-before.invariant.answered end.0 end.1;
    }

pub returns-in_err-text : goal.returns-in_err-text
returns-in_err-text g c =
    let is : c.from_residual-in_err-text.result ≡ Err ends.OutOfMemory = search rules in
    let on : c.in_ok-hear.field-0 ≡ true = search rules in
    let one = subst (λ b. Hears (Ok b) c.hear.new.line.items (g.T.Talk.history c.loop-before.talk) (g.T.Talk.history c.hear.new.self)) on
    c.in_ok-hear.ensures in
    record {
      answers = unmade_relayed c.args.rules c.loop-before.server c.reply.new.server c.loop-before.heard c.loop-before._before _ c.hear.new.line.items _ _ _
          c.loop-before.invariant.answered is one;
    }

pub returns-in_err-tell : goal.returns-in_err-tell
returns-in_err-tell g c =
    let is : c.from_residual-in_err-tell.result ≡ Err ends.Untold = search rules in
    let on : c.in_ok-hear.field-0 ≡ true = search rules in
    let one = subst (λ b. Hears (Ok b) c.hear.new.line.items (g.T.Talk.history c.loop-before.talk) (g.T.Talk.history c.hear.new.self)) on
    c.in_ok-hear.ensures in
    record {
      answers = untold_relayed c.args.rules c.loop-before.server c.reply.new.server c.loop-before.heard c.loop-before._before _ c.hear.new.line.items
          c.as_bytes.result.now c.in_err-tell.field-0.0 _ _ _ _ c.loop-before.invariant.answered is
          (λ active h counted stands. c.as_bytes.ensures.value ∙ c.in_ok-text.ensures.text active h counted stands
          ∙ ap (λ (line : List ℕ). answer c.loop-before.server.rules active h line) c.deref.ensures.value)
          one c.in_err-tell.ensures;
    }

pub loop-before-preserved : goal.loop-before-preserved
loop-before-preserved g c =
    let on : c.in_ok-hear.field-0 ≡ true = search rules in
    let one = subst (λ b. Hears (Ok b) c.hear.new.line.items (g.T.Talk.history c.loop-before.talk) (g.T.Talk.history c.hear.new.self)) on
    c.in_ok-hear.ensures in
    record {
      answered = answered_line c.args.rules c.loop-before.server c.reply.new.server c.loop-before.heard c.in_ok-text.count c.loop-before._before
          c.deref.result.now c.as_bytes.result.now _ _ _ _ c.loop-before.invariant.answered
          (subst (λ (line : List ℕ). Extends (g.T.Talk.history c.loop-before.talk) (g.T.Talk.history c.hear.new.self) (heard line ∷ []))
          (sym c.deref.ensures.value) one)
          c.in_ok-tell.ensures c.in_ok-text.ensures.stays.rules
          (λ active h counted stands. c.as_bytes.ensures.value ∙ c.in_ok-text.ensures.text active h counted stands)
          c.in_ok-text.ensures.count.count c.in_ok-text.ensures.stands;
      few = omega (arith, c.in_ok-text.ensures.count.few, c.loop-before.invariant.few);
      small = c.in_ok-text.ensures.stays.small;
    }
