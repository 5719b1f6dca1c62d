-- None of the bytes so far is a line feed.
use Rattle.std.proofs.Common.{◌≡◌, ℕ, ◌<◌, get_or}

abbrev pub invariant-loop-index : Rattle.sim_talk.proofs.ahead.feed_in.Given.invariant-loop-index
invariant-loop-index l = (k : ℕ) → k < l.index → get_or l.bytes k 0 ≡ 10 → ⊥
