-- The clients so far are told.
use Rattle.sim_server.proofs.Common.{◌≡◌, cut_said, post_list}

abbrev pub invariant-loop-i : Rattle.sim_server.proofs.audience.Audience.tell_cut.Given.invariant-loop-i
invariant-loop-i l = l.posts ≡ post_list l.i (cut_said l.self.seats.now l.self.clients l.released l.risen l.client)
