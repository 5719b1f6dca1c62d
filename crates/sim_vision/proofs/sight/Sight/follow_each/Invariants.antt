-- The states so far were looked at.
use Rattle.sim_vision.proofs.Common.{◌≡◌, take, vision_after}

abbrev pub invariant-loop-state : Rattle.sim_vision.proofs.sight.Sight.follow_each.Given.invariant-loop-state
invariant-loop-state l = l.self ≡ vision_after l.initial.self (take l.state-index l.states)
