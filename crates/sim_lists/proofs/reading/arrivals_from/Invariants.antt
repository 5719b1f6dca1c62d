-- The arrivals so far, each from a client.
use Rattle.{serde_json.specs.View.view, sim_json.specs.Commands.numbered, sim_lists.specs.Arrivals.{arrival_of, arrival_takes}}
use Rattle.{sim_lists.specs.StepLists.{early_items, IsFromClient}, std.proofs.Common.{All, length, map, Some, ℕ, [], ◌≡◌}}

abbrev pub invariant-loop-rest : Rattle.sim_lists.proofs.reading.arrivals_from.Given.invariant-loop-rest
invariant-loop-rest l = record {
  start : (i : ℕ) → early_items (arrival_of l.clients) (arrival_takes l.clients) (map view l.items) ≡ Some i → (map view l.rest ≡ map view l.items)
      × (length l.found.items ≡ 0);
  same : numbered (λ done. arrival_of l.clients) l.found.items (map view l.rest) ≡ numbered (λ done. arrival_of l.clients) [] (map view l.items);
  clients : All (IsFromClient l.clients) l.found.items;
}

abbrev pub decreases-loop-rest : Rattle.sim_lists.proofs.reading.arrivals_from.Given.decreases-loop-rest
decreases-loop-rest l = length l.rest
