use Rattle.sim_search.{proofs.Common.{All, Cell, Contains, field_of_grid, IsOpenStep, take}, specs.Floods.AreOpen}

abbrev pub invariant-loop-cell : Rattle.sim_search.proofs.region.rim_of.Given.invariant-loop-cell
invariant-loop-cell l = record {
  are_open : AreOpen (field_of_grid l.grid) l.rim.items;
  all : All (λ a. (b : Cell) → IsOpenStep (field_of_grid l.grid) a b → Contains l.rim.items b) (take l.cell-index l.cells);
}
