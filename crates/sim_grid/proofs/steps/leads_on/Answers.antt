use Rattle.{sim_laws.proofs.Neighbours.neighbour-on, std.proofs.Common.sym, std.proofs.Common.◌∙◌}

pub open-requires : Rattle.sim_grid.proofs.steps.leads_on.Goals.open-requires
open-requires c = neighbour-on c.args.cells.now.size c.args.from c.in-Some.to c.args.which (sym c.neighbour.ensures ∙ c.in-Some.is)
