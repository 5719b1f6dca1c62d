use Rattle.sim_search.{proofs.Common.{All, Cell, Contains, size_in, Some, take, ◌≡◌, ◌⊎◌}, specs.Floods.label_in}

abbrev pub invariant-loop-cell : Rattle.sim_search.proofs.labels.Labels.give.Given.invariant-loop-cell
invariant-loop-cell l = record {
  size : size_in l.self.table ≡ size_in l.initial.self.table;
  here : All (λ c. label_in l.self c ≡ Some l.label) (take l.cell-index l.cells);
  elsewhere : (c : Cell) → (label_in l.self c ≡ label_in l.initial.self c) ⊎ Contains l.cells c;
}
