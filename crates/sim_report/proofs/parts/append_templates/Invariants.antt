-- The text so far has the lines of the templates so far.
use Rattle.sim_report.proofs.Common.{◌≡◌, ◌++◌, take, string_bytes, parts_text}

abbrev pub invariant-loop-number : Rattle.sim_report.proofs.parts.append_templates.Given.invariant-loop-number
invariant-loop-number l =
    string_bytes l.out ≡ string_bytes l.initial.out ++ parts_text (take l.number l.templates)
