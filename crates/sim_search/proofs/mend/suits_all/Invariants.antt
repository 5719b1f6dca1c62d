use Rattle.sim_search.{proofs.Common.All, proofs.Common.take, specs.Floods.Suits}

abbrev pub invariant-loop-cell : Rattle.sim_search.proofs.mend.suits_all.Given.invariant-loop-cell
invariant-loop-cell l = All (Suits l.labels l.grid.size l.label) (take l.cell-index l.cells)
