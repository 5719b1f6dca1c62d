-- One list more has the posts to others alone.
use Rattle.{sim_held.proofs.Common.{ap, arith, filter, length, not, ◌∙◌}, std.proofs.{Common.◌==◌, lemmas.List.{Edits.map_over_more, get_or_default}}}

pub loop-posts-preserved : Rattle.sim_held.proofs.waiting.keep_others.Goals.loop-posts-preserved
loop-posts-preserved c =
    let value = c.deref_mut-posts-items.ensures.value in
    let items = c.loop-posts.posts-items in
    let i = c.loop-posts.posts-index in
    rw c.others_of.ensures
    (map_over_more (filter (λ post. not (post.to == c.args.to))) c.args.said.now.items items i c.replace-old.result
    (omega (arith, ap length value, c.loop-posts-test.true)) c.loop-posts.invariant
    (c.replace-old.ensures.value ∙ get_or_default items i _ _ (omega (arith, c.loop-posts.auto.posts-items, c.loop-posts-test.true))))
