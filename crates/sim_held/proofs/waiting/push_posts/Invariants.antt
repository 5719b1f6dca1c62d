-- The frames of the posts so far stand behind the rest.
use Rattle.sim_held.proofs.Common.{◌≡◌, ◌++◌, take, down_frame, flat_map, told_to}

abbrev pub invariant-loop-post : Rattle.sim_held.proofs.waiting.push_posts.Given.invariant-loop-post
invariant-loop-post l = l.out.items ≡ l.fn.out.items ++ flat_map down_frame (told_to l.to (take l.post-index l.posts))
