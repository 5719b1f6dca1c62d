-- The lists so far have the posts to others alone.
use Rattle.{sim_held.proofs.Common.{drop, filter, map, not, take, ◌++◌, ◌≡◌}, std.proofs.Common.◌==◌}

abbrev pub invariant-loop-posts : Rattle.sim_held.proofs.waiting.keep_others.Given.invariant-loop-posts
invariant-loop-posts l = l.posts-items ≡ map (filter (λ post. not (post.to == l.to))) (take l.posts-index l.fn.said.items) ++ drop l.posts-index l.fn.said.items
