-- The points so far were told.
use Rattle.{sim_base.specs.Spelling.point_bytes, sim_bytes.specs.Telling.Tells, std.proofs.Common.take, std.specs.List.flat_map}

abbrev pub invariant-loop-point : Rattle.sim_bytes.proofs.motion.tell_points.Given.invariant-loop-point
invariant-loop-point g l = Tells g.K.ByteSink.holds l.fn.out l.out (flat_map point_bytes (take l.point-index l.points))
