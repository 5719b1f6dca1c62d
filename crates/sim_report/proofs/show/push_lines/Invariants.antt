-- The text so far has the lines of the rows so far.
use Rattle.sim_report.proofs.Common.{◌≡◌, ◌++◌, take, string_bytes, flat_map, row_line}

abbrev pub invariant-loop-row : Rattle.sim_report.proofs.show.push_lines.Given.invariant-loop-row
invariant-loop-row l =
    string_bytes l.out ≡ string_bytes l.initial.out ++ flat_map (row_line l.setup) (take l.row-index l.row-items)
