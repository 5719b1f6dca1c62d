use Rattle.sim_vision.proofs.After.{explored_start}

pub returns : Rattle.sim_vision.proofs.laws.explored_was_visible.Goals.returns
returns c = explored_start
