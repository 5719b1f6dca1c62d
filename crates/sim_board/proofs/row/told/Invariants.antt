use Rattle.sim_board.proofs.Common.{◌≡◌, map, take, fact_of}

abbrev pub invariant-loop-row : Rattle.sim_board.proofs.row.told.Given.invariant-loop-row
invariant-loop-row l = l.facts ≡ map (fact_of l.setup) (take l.row-index l.state.rows)
