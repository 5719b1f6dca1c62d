-- The waypoints so far stand behind the old text.
use Rattle.sim_report.proofs.Common.{◌≡◌, ◌++◌, take, string_bytes, flat_map, next_point}

abbrev pub invariant-loop-point : Rattle.sim_report.proofs.ways.append_points.Given.invariant-loop-point
invariant-loop-point l =
    string_bytes l.out ≡ string_bytes l.initial.out ++ flat_map next_point (take l.point-index l.way)
