-- The match stays.
use Rattle.std.proofs.Common.{◌≡◌}
use Rattle.timed_calls.proofs.servers.time_of.Given as goal

abbrev pub invariant-loop-arrival : goal.invariant-loop-arrival
invariant-loop-arrival l =
    (goal.iterator-loop-arrival).can_next l.arrival-iterator
    × (goal.iterator-loop-arrival).is_finite l.arrival-iterator
    × (l.server.rules ≡ l.fn.server.rules)
