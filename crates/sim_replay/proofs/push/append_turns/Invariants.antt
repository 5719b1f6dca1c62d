-- The lines of the turns that are left stand behind what was appended.
use Rattle.sim_replay.proofs.Common.{◌≡◌, ◌+◌, ◌≤◌, ◌++◌, length, take, flat_map, ended, lines_from}

abbrev pub invariant-loop-rest : Rattle.sim_replay.proofs.push.append_turns.Given.invariant-loop-rest
invariant-loop-rest l = record {
  room : l.turn + length l.rest ≤ l.most;
  text : l.out.items ++ flat_map ended (lines_from (l.turn + 1) l.rest l.later) ≡ l.initial.out.items ++ flat_map ended (lines_from 1 l.turns l.digests);
  kept : take (length l.initial.out.items) l.out.items ≡ l.initial.out.items;
}

abbrev pub decreases-loop-rest : Rattle.sim_replay.proofs.push.append_turns.Given.decreases-loop-rest
decreases-loop-rest l = length l.rest
