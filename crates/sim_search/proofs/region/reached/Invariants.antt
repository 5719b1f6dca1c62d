use Rattle.sim_search.proofs.Common.{Contains, Cell, field_of_grid, IsJoined}

abbrev pub invariant-loop-next : Rattle.sim_search.proofs.region.reached.Given.invariant-loop-next
invariant-loop-next l = (c : Cell) → Contains l.cells.items c → IsJoined (field_of_grid l.grid) l.fn.first c
