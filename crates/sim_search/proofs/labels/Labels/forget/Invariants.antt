use Rattle.sim_search.{proofs.Common.{All, Cell, Contains, None, take, ◌≡◌, ◌⊎◌}, specs.Floods.label_in}

abbrev pub invariant-loop-cell : Rattle.sim_search.proofs.labels.Labels.forget.Given.invariant-loop-cell
invariant-loop-cell l = record {
  here : All (λ c. label_in l.self c ≡ None) (take l.cell-index l.cells);
  elsewhere : (c : Cell) → (label_in l.self c ≡ label_in l.initial.self c) ⊎ Contains l.cells c;
}
