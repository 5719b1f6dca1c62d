-- What is seen of the session is what is told of the defined one.
use Rattle.sim_talk.specs.declared.fault.TalkFault.TheVariants as ends
use Rattle.sim_live.proofs.living.tell_ending.Goals as goal
use Rattle.{sim_live.proofs.{Answered.told_part, Seen.ending_is}, sim_plain_session.specs.Sessions.session}
use Rattle.{sim_session.specs.{Going.seen_in, Seen.{ending_seen, IsMember, life_at}}, sim_talk.specs.Talks.{Extends, told}}
use Rattle.std.{proofs.Common.{All, ap, Err, length, List, rules, subst, sym, ℕ, [], ◌++◌, ◌∙◌, ◌∷◌, ◌≡◌}, specs.Prelude.string_bytes}

pub push_ending-requires-clause-clients : goal.push_ending-requires-clause-clients
push_ending-requires-clause-clients g c =
    let members = c.requires.session.members in
    record {
      members = subst (λ clients. All (IsMember c.setup.result.now (λ i. (g.dyn-2.0.entry i).1)) clients) (sym c.clients.ensures)
          (λ k d lt. record { sound = (members k d lt).sound; same = (members k d lt).same ∙ sym c.setup.ensures });
      few = search rules;
    }

pub returns-in_err-tell : goal.returns-in_err-tell
returns-in_err-tell g c = λ steps stands.
    let is : c.from_residual-in_err-tell.result ≡ Err ends.Untold = search rules in
    let own = c.args.session.now in
    let ending = ending_seen own.setup.now (life_at own.clients.items) own.exchange (length own.clients.items) in
    let seen = c.in_ok-push_ending.ensures
    ∙ (λ i. string_bytes c.new-text.result ++ ending_seen (c.setup.ensures i) (life_at (c.clients.ensures i)) (c.exchange.ensures i)
    (length (c.clients.ensures i)))
    ∙ ap (λ (t : List ℕ). t ++ ending) c.new-text.ensures.bytes in
    told_part c.from_residual-in_err-tell.result c.in_err-tell.field-0.0 _ c.as_bytes.result.now _ _ is
    (c.as_bytes.ensures.value ∙ seen ∙ ending_is own.setup.now (seen_in own) (session own.setup.now c.args.clients steps) (length own.clients.items)
    c.requires.session.count stands) c.in_err-tell.ensures

pub returns : goal.returns
returns g c = λ steps stands.
    let own = c.args.session.now in
    let ending = ending_seen own.setup.now (life_at own.clients.items) own.exchange (length own.clients.items) in
    let seen = c.in_ok-push_ending.ensures
    ∙ (λ i. string_bytes c.new-text.result ++ ending_seen (c.setup.ensures i) (life_at (c.clients.ensures i)) (c.exchange.ensures i)
    (length (c.clients.ensures i)))
    ∙ ap (λ (t : List ℕ). t ++ ending) c.new-text.ensures.bytes in
    subst (λ (t : List ℕ). Extends (g.T.Talk.history c.args.talk.now) (g.T.Talk.history c.tell.new.self) (told t ∷ []))
    (c.as_bytes.ensures.value ∙ seen ∙ ending_is own.setup.now (seen_in own) (session own.setup.now c.args.clients steps) (length own.clients.items)
    c.requires.session.count stands) c.in_ok-tell.ensures
