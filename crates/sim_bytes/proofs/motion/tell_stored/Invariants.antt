-- The points so far were told.
use Rattle.{sim_base.specs.Spelling.point_bytes, sim_bytes.specs.{Rows.point_in, Telling.Tells}, std.{proofs.Common.{map, take}, specs.List.flat_map}}

abbrev pub invariant-loop-bytes : Rattle.sim_bytes.proofs.motion.tell_stored.Given.invariant-loop-bytes
invariant-loop-bytes g l = Tells g.K.ByteSink.holds l.fn.out l.out (flat_map point_bytes (map point_in (take l.bytes-index l.stored)))
