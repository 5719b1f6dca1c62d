-- The lines of the players so far.
use Rattle.{sim_vision.proofs.Common.{explored_in, range_with_len, sight_line, string_bytes, visible_in, ◌++◌, ◌-◌, ◌≡◌, ◌≤◌}, std.specs.Prelude.flat_map}

abbrev pub invariant-loop-player : Rattle.sim_vision.proofs.tell.push_lines.Given.invariant-loop-player
invariant-loop-player l = record {
  first : 1 ≤ l.player;
  text : string_bytes l.out ≡ string_bytes l.initial.out ++ flat_map (λ p. sight_line p (visible_in l.fn.sight p) (explored_in l.fn.sight p))
      (range_with_len 1 (l.player - 1));
}
