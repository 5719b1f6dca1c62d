-- The commands of the turns so far are told.
use Rattle.sim_server.proofs.Common.{◌≡◌, ◌++◌, kept_above, kept_in, posted_to}

abbrev pub invariant-loop-i : Rattle.sim_server.proofs.past.Past.push_kept_above.Given.invariant-loop-i
invariant-loop-i l = l.posts ≡ l.fn.posts ++ posted_to l.to (kept_above (kept_in l.self.kept.now) l.turn l.i)
