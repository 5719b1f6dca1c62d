-- The points so far passed.
use Rattle.sim_codec.proofs.Common.{take, All, IsInside, point_in}

abbrev pub invariant-loop-bytes : Rattle.sim_codec.proofs.validity.are_stored_inside.Given.invariant-loop-bytes
invariant-loop-bytes l = All (λ bytes. IsInside l.setup (point_in bytes)) (take l.bytes-index l.stored)
