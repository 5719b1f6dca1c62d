use Rattle.sim_vision.proofs.After.{explored_all}

pub returns : Rattle.sim_vision.proofs.laws.explored_was_given_or_visible.Goals.returns
returns c = explored_all
