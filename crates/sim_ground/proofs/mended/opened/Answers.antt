-- The cells that are listed are those that were opened.
use Rattle.sim_ground.proofs.{Adding.opened_cells, Common.Cell, Common.List, Common.covers, Common.field_of_grid, Common.label_in, Common.subst, Common.sym}
use Rattle.sim_search.specs.Floods.{IsMore, labelled}

pub mend_opened-requires-clause-opened : Rattle.sim_ground.proofs.mended.opened.Goals.mend_opened-requires-clause-opened
mend_opened-requires-clause-opened c =
    subst (λ (xs : List Cell). IsMore (field_of_grid c.args.grid.now) (labelled c.args.grid.now.size (label_in c.args.labels.now)) xs)
    (sym c.as_slice.ensures.value)
    (opened_cells c.args.grid.now (label_in c.args.labels.now) (covers c.args.rect.now) c.in-Ok.cells.items c.in-Ok.ensures c.requires.opens)
