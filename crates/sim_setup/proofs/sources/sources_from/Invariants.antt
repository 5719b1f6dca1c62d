use Rattle.sim_setup.proofs.Common.{◌≡◌, [], map, length, All, IsReadySource, numbered, origin_of, source_of, view}

abbrev pub invariant-loop-rest : Rattle.sim_setup.proofs.sources.sources_from.Given.invariant-loop-rest
invariant-loop-rest l = record {
  same : numbered (λ done. source_of) (map origin_of l.found.items) (map view l.rest) ≡ numbered (λ done. source_of) [] (map view l.items);
  ready : All IsReadySource l.found.items;
}

abbrev pub decreases-loop-rest : Rattle.sim_setup.proofs.sources.sources_from.Given.decreases-loop-rest
decreases-loop-rest l = length l.rest
