-- The whole talk of its parts.
use Rattle.sim_talk.specs.declared.fault.TalkFault.TheVariants as ends
use Rattle.sim_live.proofs.living.talk_over.Goals as goal
use Rattle.sim_base.specs.declared.setup.Setup.{Setup}
use Rattle.sim_live.{proofs.Answered.{live_amid, live_ended, live_unbegun, live_unmade}, specs.Live.{AnswersAll, first_text, last_text}}
use Rattle.{sim_plain_session.specs.Sessions.session, sim_session.{proofs.Builds.keeps_on, specs.{Going.seen_in, Standing.StandsFor}}}
use Rattle.{sim_talk.specs.{Dialogues.TellsText, Talks.{Extends, told}}, std.proofs.Common.{Err, Ok, rules, subst, [], ◌∙◌, ◌∷◌, ◌≡◌}}

pub returns-in_err-start-clause-lives : goal.returns-in_err-start-clause-lives
returns-in_err-start-clause-lives g c =
    let is : c.from_residual.result ≡ Err ends.OutOfMemory = search rules in
    live_unmade c.args.session.now.setup.now c.args.clients c.from_residual.result _ is

pub returns-in_err-tell_starts-clause-lives : goal.returns-in_err-tell_starts-clause-lives
returns-in_err-tell_starts-clause-lives g c =
    let is : c.from_residual-in_err-tell_starts.result ≡ Err c.in_err-tell_starts.field-0.0 = search rules in
    live_unbegun c.args.session.now.setup.now c.args.clients _ c.in_err-tell_starts.field-0.0 _ _ is
    (subst (λ (s : Setup). TellsText (Err c.in_err-tell_starts.field-0.0) (first_text s c.args.clients) (g.T.Talk.history c.args.talk.now)
    (g.T.Talk.history c.tell_starts.new.talk)) c.in_ok-start.ensures.goes.keeps.setup c.in_err-tell_starts.ensures)

pub returns-in_err-answer_all-clause-lives : goal.returns-in_err-answer_all-clause-lives
returns-in_err-answer_all-clause-lives g c =
    let is : c.from_residual-in_err-answer_all.result ≡ Err c.in_err-answer_all.field-0.0 = search rules in
    live_amid c.args.session.now.setup.now c.args.clients (seen_in c.answer_all.new.session) _ c.in_err-answer_all.field-0.0 _ _ _ is
    (subst (λ (s : Setup). Extends (g.T.Talk.history c.args.talk.now) (g.T.Talk.history c.tell_starts.new.talk) (told (first_text s c.args.clients) ∷ []))
    c.in_ok-start.ensures.goes.keeps.setup c.in_ok-tell_starts.ensures)
    (subst (λ (s : Setup). AnswersAll (Err c.in_err-answer_all.field-0.0) s c.args.clients (seen_in c.answer_all.new.session)
    (g.T.Talk.history c.tell_starts.new.talk) (g.T.Talk.history c.answer_all.new.talk)) c.in_ok-start.ensures.goes.keeps.setup
    c.in_err-answer_all.ensures.answers)

pub returns-clause-lives : goal.returns-clause-lives
returns-clause-lives g c =
    let own = c.in_ok-answer_all.ensures.goes.keeps.setup ∙ c.in_ok-start.ensures.goes.keeps.setup in
    live_ended c.args.session.now.setup.now c.args.clients (seen_in c.answer_all.new.session) c.tell_ending.result c.in_ok-answer_all.field-0 _ _ _ _
    (subst (λ (s : Setup). Extends (g.T.Talk.history c.args.talk.now) (g.T.Talk.history c.tell_starts.new.talk) (told (first_text s c.args.clients) ∷ []))
    c.in_ok-start.ensures.goes.keeps.setup c.in_ok-tell_starts.ensures)
    (subst (λ (s : Setup). AnswersAll (Ok c.in_ok-answer_all.field-0) s c.args.clients (seen_in c.answer_all.new.session)
    (g.T.Talk.history c.tell_starts.new.talk) (g.T.Talk.history c.answer_all.new.talk)) c.in_ok-start.ensures.goes.keeps.setup
    c.in_ok-answer_all.ensures.answers)
    (λ steps stands. subst (λ (s : Setup). StandsFor s (seen_in c.answer_all.new.session) (session s c.args.clients steps)
    → TellsText c.tell_ending.result (last_text s c.args.clients steps) (g.T.Talk.history c.answer_all.new.talk) (g.T.Talk.history c.tell_ending.new.talk))
    own (c.tell_ending.ensures steps) stands)

pub returns-in_err-answer_all-clause-keeps : goal.returns-in_err-answer_all-clause-keeps
returns-in_err-answer_all-clause-keeps g c =
    keeps_on (λ i v. (goal.System-dyn g (i, v)).meaning v) c.args.session.now c.start.new.self c.answer_all.new.session c.start.ensures.goes.keeps
    c.answer_all.ensures.goes.keeps

pub returns-clause-keeps : goal.returns-clause-keeps
returns-clause-keeps g c =
    keeps_on (λ i v. (goal.System-dyn g (i, v)).meaning v) c.args.session.now c.start.new.self c.answer_all.new.session c.start.ensures.goes.keeps
    c.answer_all.ensures.goes.keeps
