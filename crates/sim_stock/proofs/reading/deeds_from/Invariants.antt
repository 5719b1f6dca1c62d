-- The deeds so far, which ascend.
use Rattle.sim_stock.proofs.{Common.{All, dated_of, earliest, IsDated, length, map, numbered, view, [], ◌≡◌}, Runs.IsRun}

abbrev pub invariant-loop-rest : Rattle.sim_stock.proofs.reading.deeds_from.Given.invariant-loop-rest
invariant-loop-rest l = record {
  same : numbered (λ done. dated_of l.players l.turns (earliest done)) l.found.items (map view l.rest) ≡ numbered
      (λ done. dated_of l.players l.turns (earliest done)) [] (map view l.items);
  limits : All (IsDated l.players l.turns) l.found.items;
  run : IsRun l.earliest l.found.items;
}

abbrev pub decreases-loop-rest : Rattle.sim_stock.proofs.reading.deeds_from.Given.decreases-loop-rest
decreases-loop-rest l = length l.rest
