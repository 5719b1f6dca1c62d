use Rattle.sim_search.proofs.Common.{All, Contains, take}

abbrev pub invariant-loop-cell : Rattle.sim_search.proofs.region.are_among.Given.invariant-loop-cell
invariant-loop-cell l = All (Contains l.all) (take l.cell-index l.cells)
