-- The frame of one post more, if it is to this client.
use Rattle.sim_held.proofs.Common.{ap, append-nil, append_assoc, arith, down_frame, flat_map, flat_map-append, length, sym, take, take_all, told_to, [], ◌++◌}
use Rattle.{sim_held.proofs.{Common.{◌<◌, ◌∙◌, ◌∷◌}, Waits.none_by_post}, sim_pipes.proofs.Telling.told_more, std.proofs.lemmas.Bool.false≢true}
use Rattle.sim_held.proofs.waiting.push_posts.Goals as goal

pub loop-post-init : goal.loop-post-init
loop-post-init c = sym (append-nil c.args.out.now.items)

pub loop-post-preserved : goal.loop-post-preserved
loop-post-preserved c =
    let all = c.args.posts.now in
    let i = c.loop-post.post-index in
    let to = c.args.to in
    let post = c.post-item.result in
    let old = c.args.out.now.items in
    c.in_ok-push_post.ensures.frames ∙ ap (λ l. l ++ flat_map down_frame (told_to to (post ∷ []))) c.loop-post.invariant
    ∙ append_assoc old (flat_map down_frame (told_to to (take i all))) (flat_map down_frame (told_to to (post ∷ [])))
    ∙ ap (λ l. old ++ l) (sym (ap (flat_map down_frame) (told_more to all i post (omega (arith, c.loop-post-test.true)) c.post-item.is)
    ∙ flat_map-append down_frame (told_to to (take i all)) (told_to to (post ∷ []))))

pub returns-in_err-push_post-clause-none : goal.returns-in_err-push_post-clause-none
returns-in_err-push_post-clause-none c = λ none.
    let there : c.loop-post.post-index < length c.args.posts.now = omega (arith, c.loop-post-test.true) in
    absurd (false≢true
    (c.in_err-push_post.ensures.none (none_by_post c.args.to c.args.posts.now c.loop-post.post-index c.post-item.result there c.post-item.is none)))

pub returns-clause-frames : goal.returns-clause-frames
returns-clause-frames c = c.loop-post.invariant ∙
    ap (λ l. c.args.out.now.items ++ flat_map down_frame (told_to c.args.to l))
    (take_all c.loop-post.post-index c.args.posts.now (omega (arith, c.loop-post-test.false)))
