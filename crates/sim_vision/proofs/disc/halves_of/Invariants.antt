-- The halves of the rows so far.
use Rattle.sim_vision.proofs.Common.{◌≡◌, ℕ, ◌-◌, ◌*◌, ◌<◌, length, get_or, IsRoot}

abbrev pub invariant-loop-away : Rattle.sim_vision.proofs.disc.halves_of.Given.invariant-loop-away
invariant-loop-away l = record {
  full : length l.halves.items ≡ l.away;
  each : (k : ℕ) → k < l.away →
      IsRoot (l.fn.reach * l.fn.reach - k * k) (get_or l.halves.items k 0);
}
