-- The text so far has the lines of the clients so far beside each other one.
use Rattle.sim_session.proofs.TextCommon.{◌≡◌, ◌++◌, length, string_bytes, beside_seen, life_at, told_of}

abbrev pub invariant-loop-index : Rattle.sim_session.proofs.closing.push_pairs.Given.invariant-loop-index
invariant-loop-index g l = string_bytes l.out ≡ string_bytes l.initial.out ++ told_of (beside_seen (life_at l.clients) (length l.clients)) l.index
