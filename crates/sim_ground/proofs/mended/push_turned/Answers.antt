-- The cell is added where it was turned.
use Rattle.sim_ground.{proofs.{Adding.{adds_cell, adds_none}, Common.{Cell, label_in, List, same_cell, subst, sym, ◌∙◌}}, specs.Mending.AddsTurned}

pub returns-in_ok-push : Rattle.sim_ground.proofs.mended.push_turned.Goals.returns-in_ok-push
returns-in_ok-push c =
    subst (λ (xs : List Cell). AddsTurned c.args.grid.now (label_in c.args.labels.now) (λ (e : Cell). same_cell e c.args.cell) c.args.cells.now.items xs)
    (sym c.in_ok-push.ensures.items)
    (adds_cell c.args.grid.now (label_in c.args.labels.now) c.args.cell c.args.cells.now.items c.requires (sym c.is_turned.ensures ∙ c.if-is_turned.true))

pub returns-else-is_turned : Rattle.sim_ground.proofs.mended.push_turned.Goals.returns-else-is_turned
returns-else-is_turned c = adds_none c.args.grid.now (label_in c.args.labels.now) c.args.cell c.args.cells.now.items
    (sym c.is_turned.ensures ∙ c.if-is_turned.false)
