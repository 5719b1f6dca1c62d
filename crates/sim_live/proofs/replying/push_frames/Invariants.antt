-- The text so far has the lines of the messages so far.
use Rattle.{sim_live.specs.Relays.frame_line, std.proofs.Common.{flat_map, string_bytes, take, ◌++◌, ◌≡◌}}

abbrev pub invariant-loop-post : Rattle.sim_live.proofs.replying.push_frames.Given.invariant-loop-post
invariant-loop-post l = string_bytes l.out ≡ string_bytes l.initial.out ++ flat_map frame_line (take l.post-index l.post-items)
