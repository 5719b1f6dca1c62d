-- The frames of the lists so far.
use Rattle.sim_held.{proofs.Common.take, proofs.Common.◌≡◌, specs.Servers.frames_for}

abbrev pub invariant-loop-posts : Rattle.sim_held.proofs.waiting.frames_to.Given.invariant-loop-posts
invariant-loop-posts l = l.out.items ≡ frames_for (take l.posts-index l.said) l.to
