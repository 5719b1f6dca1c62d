-- The commands so far are copied.
use Rattle.sim_session.proofs.TextCommon.{◌≡◌, take}

abbrev pub invariant-loop-command : Rattle.sim_session.proofs.recording.copied.Given.invariant-loop-command
invariant-loop-command l = l.copied ≡ take l.command-index l.commands
