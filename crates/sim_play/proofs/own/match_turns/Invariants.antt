-- The turns so far.
use Rattle.sim_play.proofs.Common.{◌≡◌, map, orders_at, range_with_len}

abbrev pub invariant-loop-before : Rattle.sim_play.proofs.own.match_turns.Given.invariant-loop-before
invariant-loop-before l = l.turns ≡ map (λ t. orders_at t l.setup.commands) (range_with_len 1 l.before)
