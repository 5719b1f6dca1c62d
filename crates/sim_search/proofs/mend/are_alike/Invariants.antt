use Rattle.sim_search.{proofs.Common.{Cell, neighbour, Some, ℕ, ◌<◌, ◌≡◌}, specs.Floods.label_in}

abbrev pub invariant-loop-which : Rattle.sim_search.proofs.mend.are_alike.Given.invariant-loop-which
invariant-loop-which l = (j : ℕ) (b : Cell) (n : ℕ) → j < l.which → neighbour l.grid.size l.cell j ≡ Some b → label_in l.labels b ≡ Some n → n ≡ l.label
