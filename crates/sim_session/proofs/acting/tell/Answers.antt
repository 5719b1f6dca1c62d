-- What was sent stays sent, whatever is printed of it.
use Rattle.sim_session.proofs.Common.{anyway}

pub returns-clause-sent : Rattle.sim_session.proofs.acting.tell.Goals.returns-clause-sent
returns-clause-sent c = λ setup s acted conveys said. anyway c.said_events.result (c.in_ok-send.ensures.stands setup s acted conveys said)
