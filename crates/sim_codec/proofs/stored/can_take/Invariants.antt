-- What is still to be taken can be taken just where all can.
use Rattle.sim_codec.proofs.Common.{◌≡◌, ◌-◌, is_some, rows_at}

abbrev pub invariant-loop : Rattle.sim_codec.proofs.stored.can_take.Given.invariant-loop
invariant-loop l = is_some (rows_at l.templates (l.count - l.counter) l.walk) ≡ is_some (rows_at l.templates l.count l.fn.walk)
