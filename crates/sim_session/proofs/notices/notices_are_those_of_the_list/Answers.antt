-- The law is the lemma of this name.
use Rattle.sim_session.proofs.Saying.{notices_are_said}

pub returns : Rattle.sim_session.proofs.notices.notices_are_those_of_the_list.Goals.returns
returns c = notices_are_said
