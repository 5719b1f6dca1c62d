-- The messages so far are sent.
use Rattle.sim_pipes.proofs.Common.{ℕ, List, ◌++◌, take, AreFrames, IsUpFrame, UpOf}

abbrev pub invariant-loop-up : Rattle.sim_pipes.proofs.sending.send_all_up.Given.invariant-loop-up
invariant-loop-up l = (before : List (UpOf (List ℕ))) → AreFrames IsUpFrame l.fn.pipe before → AreFrames IsUpFrame l.pipe (before ++ take l.up-index l.ups)
