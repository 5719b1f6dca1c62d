-- The text so far has the lines of the clients so far.
use Rattle.sim_session.proofs.TextCommon.{◌≡◌, ◌++◌, string_bytes, ends_seen, life_at}

abbrev pub invariant-loop-index : Rattle.sim_session.proofs.closing.push_ends.Given.invariant-loop-index
invariant-loop-index g l = string_bytes l.out ≡ string_bytes l.initial.out ++ ends_seen l.setup (life_at l.clients) l.index
