-- The commands of the turns so far are kept.
use Rattle.{sim_server.specs.Standing.server_of, sim_session.proofs.TextCommon.◌≡◌, sim_session.proofs.TextCommon.map, std.specs.List.range_with_len}

abbrev pub invariant-loop-before : Rattle.sim_session.proofs.recording.turns_of.Given.invariant-loop-before
invariant-loop-before l = l.turns ≡ map (server_of l.server).kept (range_with_len 1 l.before)
