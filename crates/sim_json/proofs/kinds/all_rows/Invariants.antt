use Rattle.{serde_json.specs.View.view, sim_json.specs.Values.is_row, std.{proofs.Common.{length, map, ◌≡◌}, specs.List.list_all}}

abbrev pub invariant-loop-rest : Rattle.sim_json.proofs.kinds.all_rows.Given.invariant-loop-rest
invariant-loop-rest l = list_all is_row (map view l.rest) ≡ list_all is_row (map view l.items)

abbrev pub decreases-loop-rest : Rattle.sim_json.proofs.kinds.all_rows.Given.decreases-loop-rest
decreases-loop-rest l = length l.rest
