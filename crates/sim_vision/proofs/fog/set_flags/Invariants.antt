-- The flags so far are those of the bytes.
use Rattle.sim_vision.proofs.Common.{◌≡◌, ℕ, ◌<◌, false, eqb, get_or}

abbrev pub invariant-loop-at : Rattle.sim_vision.proofs.fog.set_flags.Given.invariant-loop-at
invariant-loop-at l = (k : ℕ) → k < l.at → get_or l.flags k false ≡ eqb (get_or l.bytes k 0) 1
