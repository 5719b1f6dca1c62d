-- The pipes so far are empty.
use Rattle.sim_pipes.proofs.Common.{◌≡◌, ℕ, [], length, pipe_in}

abbrev pub invariant-loop : Rattle.sim_pipes.proofs.exchange.pipes.Given.invariant-loop
invariant-loop l = record {
  count : length l.pipes.items ≡ l.counter;
  empty : (c : ℕ) → pipe_in l.pipes.items c ≡ [];
}
