-- It is asked for those that wait so far.
use Rattle.sim_server.proofs.Common.{◌≡◌, ◌++◌, map, filter, Ask, posted_to, status_in, up_to, waits_for}

abbrev pub invariant-loop-i : Rattle.sim_server.proofs.audience.Audience.push_each_ask.Given.invariant-loop-i
invariant-loop-i l = l.posts ≡ l.fn.posts ++ posted_to l.to (map Ask (filter (λ j. waits_for l.client (status_in l.self.seats.now j)) (up_to l.i)))
