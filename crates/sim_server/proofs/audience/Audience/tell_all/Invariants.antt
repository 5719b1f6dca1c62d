-- The clients so far are told.
use Rattle.sim_server.proofs.Common.{◌≡◌, post_list, status_in, to_all}

abbrev pub invariant-loop-i : Rattle.sim_server.proofs.audience.Audience.tell_all.Given.invariant-loop-i
invariant-loop-i l = l.posts ≡ post_list l.i (to_all (status_in l.self.seats.now) l.down)
