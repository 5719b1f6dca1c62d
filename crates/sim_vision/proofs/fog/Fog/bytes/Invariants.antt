-- The bytes so far are those of the flags.
use Rattle.sim_vision.proofs.Common.{◌≡◌, map, take, one_if}

abbrev pub invariant-loop-flag : Rattle.sim_vision.proofs.fog.Fog.bytes.Given.invariant-loop-flag
invariant-loop-flag l = l.bytes.items ≡ map one_if (take l.flag-index l.flag-items)
