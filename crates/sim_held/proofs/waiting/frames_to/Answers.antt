-- The frames of one list more.
use Rattle.sim_held.proofs.waiting.frames_to.Goals as goal
use Rattle.sim_held.proofs.Common.{ap, arith, down_frame, flat_map, flat_map-append, get_or, length, sym, take, take_all, told_to, ◌++◌, ◌<◌, ◌∙◌}
use Rattle.{sim_held.{proofs.Waits.{flat_map_more, none_by_list}, specs.Servers.{frames_for, waiting}}, std.proofs.lemmas.Bool.false≢true}

pub loop-posts-preserved : goal.loop-posts-preserved
loop-posts-preserved c =
    let all = c.args.said.now in
    let i = c.loop-posts.posts-index in
    let to = c.args.to in
    let posts = c.posts-item.result in
    c.in_ok-push_posts.ensures.frames ∙ ap (λ l. l ++ flat_map down_frame (told_to to c.as_slice.result.now)) c.loop-posts.invariant
    ∙ ap (λ l. frames_for (take i all) to ++ flat_map down_frame (told_to to l)) c.as_slice.ensures
    ∙ sym (ap (flat_map down_frame) (flat_map_more (told_to to) all i posts (omega (arith, c.loop-posts-test.true)) c.posts-item.is)
    ∙ flat_map-append down_frame (waiting (take i all) to) (told_to to posts))

pub returns-in_err-push_posts-clause-none : goal.returns-in_err-push_posts-clause-none
returns-in_err-push_posts-clause-none c = λ none.
    let there : c.loop-posts.posts-index < length c.args.said.now = omega (arith, c.loop-posts-test.true) in
    let is = c.as_slice.ensures ∙ c.posts-item.is ∙ ap (get_or c.args.said.now c.loop-posts.posts-index) (sym c.as_slice.ensures) in
    absurd (false≢true
    (c.in_err-push_posts.ensures.none (none_by_list c.args.to c.args.said.now c.loop-posts.posts-index c.as_slice.result.now there is none)))

pub returns-clause-frames : goal.returns-clause-frames
returns-clause-frames c = c.loop-posts.invariant ∙
    ap (λ l. frames_for l c.args.to) (take_all c.loop-posts.posts-index c.args.said.now (omega (arith, c.loop-posts-test.false)))
