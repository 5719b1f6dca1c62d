use Rattle.sim_setup.proofs.Common.{◌≡◌, ◌+◌, length, falls_at}

abbrev pub invariant-loop-rest : Rattle.sim_setup.proofs.commands.falls_at.Given.invariant-loop-rest
invariant-loop-rest l = record {
  same : falls_at l.before l.index l.rest ≡ falls_at 0 0 l.commands;
  count : l.index + length l.rest ≡ length l.commands;
}

abbrev pub decreases-loop-rest : Rattle.sim_setup.proofs.commands.falls_at.Given.decreases-loop-rest
decreases-loop-rest l = length l.rest
