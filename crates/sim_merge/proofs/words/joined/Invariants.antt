use Rattle.sim_merge.proofs.Common.{◌≡◌, take, string_bytes, join_with_byte}

abbrev pub invariant-loop-place : Rattle.sim_merge.proofs.words.joined.Given.invariant-loop-place
invariant-loop-place l = string_bytes l.text ≡ join_with_byte 0x20 (take l.place l.words)
