-- The cell beside one is on the ground.
use Rattle.std.proofs.Common.{Some, subst, sym, ◌≡◌}
use Rattle.{sim_base.specs.Places.neighbour, sim_grid.specs.Grids.OpenCells, sim_grid.specs.Grids.place_of, sim_laws.proofs.Neighbours.neighbour-on}

pub returns-clause-spot : Rattle.sim_grid.proofs.grid.Grid.spot_beside.Goals.returns-clause-spot
returns-clause-spot c =
    let to = c.beside.result in
    let from = c.args.from.cell in
    record {
      on = neighbour-on c.args.self.now.size from to c.args.which c.beside.ensures;
      place_is = subst (λ (g : OpenCells). c.place_beside.result ≡ place_of g.size to) c.self.view_is
          (c.place_beside.ensures to (subst (λ (g : OpenCells). neighbour g.size from c.args.which ≡ Some to) (sym c.self.view_is) c.beside.ensures));
    }
