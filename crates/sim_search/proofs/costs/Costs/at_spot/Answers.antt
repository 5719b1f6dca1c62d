use Rattle.{sim_grid.proofs.Beside.place-below, sim_search.proofs.Common.arith, sim_search.proofs.Common.size_of}

pub index-requires : Rattle.sim_search.proofs.costs.Costs.at_spot.Goals.index-requires
index-requires c =
    let t = c.args.self.now in
    omega (arith, c.requires.place_is, place-below (size_of t) c.args.spot.cell c.requires.on, t.full, t.items.ok.0)
