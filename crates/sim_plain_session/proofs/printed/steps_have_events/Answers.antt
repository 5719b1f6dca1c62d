use Rattle.sim_plain_session.proofs.Enabling.{events_are_of_steps, steps_have_events}

pub returns : Rattle.sim_plain_session.proofs.printed.steps_have_events.Goals.returns
returns c = record { events = events_are_of_steps; steps = steps_have_events }
