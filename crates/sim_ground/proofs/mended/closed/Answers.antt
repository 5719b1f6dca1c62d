-- The cells that are listed are those that were closed.
use Rattle.sim_ground.proofs.{Adding.closed_cells, Common.Cell, Common.List, Common.covers, Common.field_of_grid, Common.label_in, Common.subst, Common.sym}
use Rattle.sim_search.specs.Floods.{IsMore, labelled}

pub mend_closed-requires-clause-closed : Rattle.sim_ground.proofs.mended.closed.Goals.mend_closed-requires-clause-closed
mend_closed-requires-clause-closed c =
    subst (λ (xs : List Cell). IsMore (labelled c.args.grid.now.size (label_in c.args.labels.now)) (field_of_grid c.args.grid.now) xs)
    (sym c.as_slice.ensures.value)
    (closed_cells c.args.grid.now (label_in c.args.labels.now) (covers c.args.rect.now) c.in-Ok.cells.items c.in-Ok.ensures c.requires.closes)
