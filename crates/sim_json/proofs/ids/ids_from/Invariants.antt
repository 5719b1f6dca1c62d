-- The ids so far, and as many as there were items. Where an item is an id, the first one is.
use Rattle.{serde_json.specs.View.view, sim_json.specs.Commands.{begins_with_id, id_in, records}, std.proofs.Common.{length, map, true, [], ◌+◌, ◌≡◌, ◌≤◌}}

abbrev pub invariant-loop-rest : Rattle.sim_json.proofs.ids.ids_from.Given.invariant-loop-rest
invariant-loop-rest l = record {
  same : records (λ done. id_in) l.found.items (map view l.rest) ≡ records (λ done. id_in) [] (map view l.items);
  count : length l.found.items + length l.rest ≡ length l.items;
  few : length l.items ≤ 256;
  first : begins_with_id (map view l.rest) ≡ true → begins_with_id (map view l.items) ≡ true;
}

abbrev pub decreases-loop-rest : Rattle.sim_json.proofs.ids.ids_from.Given.decreases-loop-rest
decreases-loop-rest l = length l.rest
