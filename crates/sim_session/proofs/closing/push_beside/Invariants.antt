-- The text so far has the lines of the client beside those so far.
use Rattle.sim_session.proofs.TextCommon.{◌≡◌, ◌++◌, string_bytes, beside_seen, life_at}

abbrev pub invariant-loop-index : Rattle.sim_session.proofs.closing.push_beside.Given.invariant-loop-index
invariant-loop-index g l = string_bytes l.out ≡ string_bytes l.initial.out ++ beside_seen (life_at l.clients) l.index l.number
