-- The commands so far, each of a player.
use Rattle.std.proofs.Common.{All, [], length, map, ◌≡◌}
use Rattle.{serde_json.specs.View.view, sim_embed.specs.Causes.IsOrderFor, sim_embed.specs.Causes.order_of, sim_json.specs.Commands.numbered}

abbrev pub invariant-loop-rest : Rattle.sim_embed.proofs.reading.commands_from.Given.invariant-loop-rest
invariant-loop-rest l = record {
  same : numbered (λ done. order_of l.players) l.found.items (map view l.rest) ≡ numbered (λ done. order_of l.players) [] (map view l.items);
  players : All (IsOrderFor l.players) l.found.items;
}

abbrev pub decreases-loop-rest : Rattle.sim_embed.proofs.reading.commands_from.Given.decreases-loop-rest
decreases-loop-rest l = length l.rest
