use Rattle.sim_plain_session.proofs.GoingOn.{events_are_in_order, events_go_on, session_goes_on}

pub returns : Rattle.sim_plain_session.proofs.printed.sessions_go_on.Goals.returns
returns c = record { session = session_goes_on; events = events_go_on; order = events_are_in_order }
