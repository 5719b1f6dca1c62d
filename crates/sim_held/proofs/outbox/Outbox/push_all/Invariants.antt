-- The frames so far stand behind what waited.
use Rattle.sim_held.proofs.Common.{◌≡◌, ◌++◌, take, frames_of}

abbrev pub invariant-loop-up : Rattle.sim_held.proofs.outbox.Outbox.push_all.Given.invariant-loop-up
invariant-loop-up l = l.self ≡ l.fn.self ++ frames_of (take l.up-index l.ups)
