-- The lines of the events so far stand behind the old text.
use Rattle.sim_session.proofs.TextCommon.{◌≡◌, ◌++◌, take, string_bytes, lines_of}

abbrev pub invariant-loop-event : Rattle.sim_session.proofs.told.push_events.Given.invariant-loop-event
invariant-loop-event l = string_bytes l.out ≡ string_bytes l.initial.out ++ lines_of (take l.event-index l.events)
