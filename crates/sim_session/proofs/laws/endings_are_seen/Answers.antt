-- A lemma.
use Rattle.sim_session.proofs.Seeing.{endings_same}

pub returns : Rattle.sim_session.proofs.laws.endings_are_seen.Goals.returns
returns c = endings_same
