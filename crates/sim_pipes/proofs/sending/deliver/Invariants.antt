-- The posts so far are sent, and there are as many pipes as before.
use Rattle.sim_pipes.proofs.Common.{◌≡◌, ℕ, List, ◌++◌, length, take, AreFrames, DownOf, IsDownFrame, pipe_in, told_to}

abbrev pub invariant-loop-post : Rattle.sim_pipes.proofs.sending.deliver.Given.invariant-loop-post
invariant-loop-post l = record {
  frames : (c : ℕ) (before : List (DownOf (List ℕ))) → AreFrames IsDownFrame (pipe_in l.fn.pipes.items c) before
      → AreFrames IsDownFrame (pipe_in l.pipes.items c) (before ++ told_to c (take l.post-index l.post-items));
  count : length l.pipes.items ≡ length l.fn.pipes.items;
}
