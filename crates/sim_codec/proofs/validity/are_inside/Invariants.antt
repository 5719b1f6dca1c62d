-- The points so far passed.
use Rattle.sim_codec.proofs.Common.{take, All, IsInside}

abbrev pub invariant-loop-point : Rattle.sim_codec.proofs.validity.are_inside.Given.invariant-loop-point
invariant-loop-point l = All (IsInside l.setup) (take l.point-index l.points)
