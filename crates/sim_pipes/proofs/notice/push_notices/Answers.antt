-- One post more is looked at.
use Rattle.sim_pipes.proofs.Common.{[], ap, append_assoc, arith, filter_map, length, notice_events, notice_in, sym, take, told_to, ◌++◌, ◌∙◌, ◌∷◌}
use Rattle.sim_pipes.proofs.Telling.{notices_more}

pub returns-in_err-push_notice-clause-none : Rattle.sim_pipes.proofs.notice.push_notices.Goals.returns-in_err-push_notice-clause-none
returns-in_err-push_notice-clause-none c = λ none. absurd (omega (arith, c.loop-post-test.true, ap length (c.as_slice-post-items.ensures ∙ none)))

pub loop-post-preserved : Rattle.sim_pipes.proofs.notice.push_notices.Goals.loop-post-preserved
loop-post-preserved c =
    let all = c.as_slice-post-items.result.now in
    let i = c.loop-post.post-index in
    let new = notice_events (filter_map notice_in (told_to c.args.client (c.post-item.result ∷ []))) in
    c.in_ok-push_notice.ensures ∙ ap (λ l. l ++ new) c.loop-post.invariant
    ∙ append_assoc c.args.events.now (notice_events (filter_map notice_in (told_to c.args.client (take i all)))) new
    ∙ ap (λ l. c.args.events.now ++ l) (sym (notices_more c.args.client all i c.post-item.result (omega (arith, c.loop-post-test.true)) c.post-item.is))
