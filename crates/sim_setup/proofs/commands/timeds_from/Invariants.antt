use Rattle.sim_setup.{proofs.Common.{length, map, numbered, Tallies, timed_of, view, [], ◌≡◌}, specs.Crowds.Covers}

abbrev pub invariant-loop-rest : Rattle.sim_setup.proofs.commands.timeds_from.Given.invariant-loop-rest
invariant-loop-rest l = record {
  same : numbered (timed_of l.turns l.players) l.found.items (map view l.rest) ≡ numbered (timed_of l.turns l.players) [] (map view l.items);
  tallies : Tallies l.crowd l.found.items;
  covers : Covers l.crowd l.turns;
}

abbrev pub decreases-loop-rest : Rattle.sim_setup.proofs.commands.timeds_from.Given.decreases-loop-rest
decreases-loop-rest l = length l.rest
