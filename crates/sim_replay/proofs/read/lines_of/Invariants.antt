-- The rest is read as the whole is.
use Rattle.sim_replay.proofs.Common.{◌≡◌, ◌+◌, ◌≤◌, length, nothing, parts_of, read_parts}

abbrev pub invariant-loop-line : Rattle.sim_replay.proofs.read.lines_of.Given.invariant-loop-line
invariant-loop-line l = record {
  same : read_parts l.setup l.read l.number (parts_of l.rest) ≡ read_parts l.setup nothing 2 (parts_of l.bytes);
  counted : l.number + length l.rest ≤ length l.bytes + 2;
}

abbrev pub decreases-loop-line : Rattle.sim_replay.proofs.read.lines_of.Given.decreases-loop-line
decreases-loop-line l = length l.rest
