-- The text so far has the lines of the turns so far.
use Rattle.{sim_server.specs.Standing.server_of, sim_session.specs.Served.kept_lines, std.{proofs.Common.{◌++◌, ◌≡◌}, specs.Prelude.string_bytes}}

abbrev pub invariant-loop-i : Rattle.sim_session.proofs.serve.push_all_kept.Given.invariant-loop-i
invariant-loop-i l = string_bytes l.text ≡ string_bytes l.initial.text ++ kept_lines (server_of l.server).kept l.i
