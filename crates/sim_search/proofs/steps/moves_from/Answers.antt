use Rattle.sim_search.proofs.{Common.field_of_grid, Common.sym, Common.◌∙◌, Moves.open-moves}

pub returns-then-open : Rattle.sim_search.proofs.steps.moves_from.Goals.returns-then-open
returns-then-open c = open-moves (field_of_grid c.args.grid.now) c.args.start (sym c.open.ensures ∙ c.if-open.true) c.args.from c.steps.result c.steps.ensures
