use Rattle.{sim_grid.proofs.Beside.place-below, sim_search.proofs.Common.arith, sim_search.specs.Rows.size_about}

pub index-requires : Rattle.sim_search.proofs.distances.Distances.at_spot.Goals.index-requires
index-requires c =
    let d = c.args.self.now in
    omega (arith, c.requires.place_is, place-below (size_about d) c.args.spot.cell c.requires.on, d.full, d.items.ok.0)
