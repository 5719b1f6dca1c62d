-- The line of a client that is on at the beginning.
use Rattle.sim_base.specs.declared.step.Event.TheVariants as event
use Rattle.{sim_report.specs.Lines.event_line, std.specs.Prelude.{List, None, Option, Some, ℕ, []}}

-- by the digest of its state, if it has one
abbrev pub start_lines : ℕ → Option (List ℕ) → List ℕ
start_lines c None = []
start_lines c (Some shown) = event_line (event.Start c shown)
