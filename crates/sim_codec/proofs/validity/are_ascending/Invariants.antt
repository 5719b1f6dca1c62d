-- Below the place each id is below the next.
use Rattle.sim_codec.proofs.Common.{ℕ, ◌+◌, ◌<◌, map, get_or, id_of}

abbrev pub invariant-loop-i : Rattle.sim_codec.proofs.validity.are_ascending.Given.invariant-loop-i
invariant-loop-i l = (k : ℕ) → k + 1 < l.i → get_or (map id_of l.rows) k 0 < get_or (map id_of l.rows) (k + 1) 0
