-- The text so far has the ways of the rows so far.
use Rattle.sim_report.proofs.Common.{◌≡◌, ◌++◌, take, string_bytes, flat_map, row_way}

abbrev pub invariant-loop-row : Rattle.sim_report.proofs.ways.append_ways.Given.invariant-loop-row
invariant-loop-row l =
    string_bytes l.out ≡ string_bytes l.initial.out ++ flat_map row_way (take l.row-index l.row-items)
