-- One arrival more is heard, and what is said at it is appended.
use Rattle.{sim_lists.specs.Arrivals.plain_arrival, sim_plain.specs.{declared.rules.Rules.Rules, Server.{posts_of, server_after}}}
use Rattle.sim_session.{proofs.Histories.{history_more, said_more}, specs.Served.history}
use Rattle.std.{proofs.Common.{ap, append_assoc, arith, length, map, sym, [], ◌∙◌, ◌∷◌, ◌≡◌}, specs.{Prelude.string_bytes, Vec.Iter.into_iter_items}}

pub loop-arrival-preserved : Rattle.sim_session.proofs.serve.push_said.Goals.loop-arrival-preserved
loop-arrival-preserved c =
    let at = c.loop-arrival in
    let x = c.in-Some.arrival in
    let steps : into_iter_items at.arrival-iterator ≡ x ∷ into_iter_items c.next.new.self = c.in-Some.ensures.steps.0 in
    record {
      whole = append_assoc at.yielded (x ∷ []) _ ∙ rw (← steps) at.invariant.whole;
      left = (let was = at.invariant.left in let gone = c.in-Some.ensures.steps.1 in let short = ap length steps in omega arith);
      rules = c.answer.ensures.rules ∙ at.invariant.rules;
      stands = λ active h begins.
          (c.in_ok-posts.ensures.answers active (history h (map plain_arrival at.yielded)) (at.invariant.stands active h begins)).0
          ∙ ap (server_after c.answer.new.server.rules active) (sym (history_more h at.yielded x));
      text = λ active h begins.
          said_more c.args.server.now.rules active h at.yielded x (string_bytes c.args.text.now) (string_bytes at.text) _ c.in_ok-posts.posts
          (at.invariant.text active h begins) c.in_ok-push_posts.ensures
          ((c.in_ok-posts.ensures.answers active (history h (map plain_arrival at.yielded)) (at.invariant.stands active h begins)).1
          ∙ ap (λ (rules : Rules). posts_of rules (server_after rules active (history h (map plain_arrival at.yielded))) (plain_arrival x)) at.invariant.rules);
    }
