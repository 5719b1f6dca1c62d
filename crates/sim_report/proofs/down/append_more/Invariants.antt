-- The ids so far stand behind the old text.
use Rattle.sim_report.proofs.Common.{◌≡◌, ◌++◌, take, string_bytes, flat_map, next_id}

abbrev pub invariant-loop-id : Rattle.sim_report.proofs.down.append_more.Given.invariant-loop-id
invariant-loop-id l = string_bytes l.out ≡ string_bytes l.initial.out ++ flat_map next_id (take l.id-index l.ids)
