-- The match stays.
use Rattle.std.proofs.Common.{◌≡◌}

abbrev pub invariant-loop-turn : Rattle.timed_calls.proofs.servers.measure_server.Given.invariant-loop-turn
invariant-loop-turn l = l.server.rules.clients ≡ 8
