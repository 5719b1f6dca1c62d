-- Each cell so far is counted one more, and has its flag.
use Rattle.sim_vision.proofs.Common.{◌≡◌, ℕ, ◌+◌, ◌≤◌, max, false, ◌||◌, get_or, is_within, one_if}

abbrev pub invariant-loop-at : Rattle.sim_vision.proofs.row.raise.Given.invariant-loop-at
invariant-loop-at l = record {
  last : l.at ≤ max l.from l.to;
  counted : (k : ℕ) → get_or l.counts k 0 ≡ get_or l.initial.counts k 0 + one_if (is_within l.from l.at k);
  flagged : (k : ℕ) → get_or l.flags k false ≡ (get_or l.initial.flags k false || is_within l.from l.at k);
}
