-- The text so far has the lines of the messages so far.
use Rattle.{sim_report.specs.Downs.post_line, std.{proofs.Common.{take, ◌++◌, ◌≡◌}, specs.Prelude.{flat_map, string_bytes}}}

abbrev pub invariant-loop-post : Rattle.sim_session.proofs.serve.push_posts.Given.invariant-loop-post
invariant-loop-post l = string_bytes l.text ≡ string_bytes l.initial.text ++ flat_map post_line (take l.post-index l.post-items)
