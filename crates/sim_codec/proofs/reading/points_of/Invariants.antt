-- The points so far are there.
use Rattle.sim_codec.proofs.Common.{◌≡◌, ◌++◌, map, take, point_in}

abbrev pub invariant-loop-bytes : Rattle.sim_codec.proofs.reading.points_of.Given.invariant-loop-bytes
invariant-loop-bytes l = l.way.items ≡ l.points ++ map point_in (take l.bytes-index l.stored)
