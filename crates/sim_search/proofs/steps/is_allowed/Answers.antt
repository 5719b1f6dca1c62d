use Rattle.sim_search.proofs.Common.{neighbour-on, sym, ◌∙◌}

pub is_free-requires : Rattle.sim_search.proofs.steps.is_allowed.Goals.is_free-requires
is_free-requires c = neighbour-on c.args.grid.now.size c.args.from c.in-Some.to c.args.which (sym c.neighbour.ensures ∙ c.in-Some.is)
