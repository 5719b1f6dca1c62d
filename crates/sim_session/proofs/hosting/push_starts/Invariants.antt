-- The text so far has the lines of the clients so far.
use Rattle.sim_session.proofs.TextCommon.{◌≡◌, ◌++◌, string_bytes, lines_of, start_events}

abbrev pub invariant-loop-before : Rattle.sim_session.proofs.hosting.push_starts.Given.invariant-loop-before
invariant-loop-before g l = string_bytes l.text ≡ string_bytes l.initial.text ++ lines_of (start_events l.session.setup.now l.before)
