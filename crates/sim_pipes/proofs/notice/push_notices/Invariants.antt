-- The notices so far are printed.
use Rattle.sim_pipes.proofs.Common.{◌≡◌, ◌++◌, take, filter_map, notice_events, notice_in, told_to}

abbrev pub invariant-loop-post : Rattle.sim_pipes.proofs.notice.push_notices.Given.invariant-loop-post
invariant-loop-post l = l.events ≡ l.fn.events ++ notice_events (filter_map notice_in (told_to l.client (take l.post-index l.post-items)))
