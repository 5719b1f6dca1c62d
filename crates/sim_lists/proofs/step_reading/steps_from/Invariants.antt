-- The steps so far, each of a player.
use Rattle.{serde_json.specs.View.view, sim_json.specs.Commands.numbered, sim_lists.specs.{Arrivals.step_takes, StepLists.{early_items, IsStep, step_of}}}
use Rattle.std.proofs.Common.{All, length, map, Some, ℕ, [], ◌≡◌}

abbrev pub invariant-loop-rest : Rattle.sim_lists.proofs.step_reading.steps_from.Given.invariant-loop-rest
invariant-loop-rest l = record {
  start : (i : ℕ) → early_items (step_of l.players) (step_takes l.players) (map view l.items) ≡ Some i → (map view l.rest ≡ map view l.items)
      × (length l.found.items ≡ 0);
  same : numbered (λ done. step_of l.players) l.found.items (map view l.rest) ≡ numbered (λ done. step_of l.players) [] (map view l.items);
  limits : All (IsStep l.players) l.found.items;
}

abbrev pub decreases-loop-rest : Rattle.sim_lists.proofs.step_reading.steps_from.Given.decreases-loop-rest
decreases-loop-rest l = length l.rest
