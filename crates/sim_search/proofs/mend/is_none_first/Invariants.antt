use Rattle.sim_search.{proofs.Common.All, proofs.Common.take, specs.Floods.IsNotFirst, specs.Floods.label_in}

abbrev pub invariant-loop-cell : Rattle.sim_search.proofs.mend.is_none_first.Given.invariant-loop-cell
invariant-loop-cell l = All (IsNotFirst l.grid.size (label_in l.labels)) (take l.cell-index l.cells)
