use Rattle.sim_territory.proofs.{Common.◌≡◌, Common.◌*◌, Common.length, Common.arith, Finding.all_found}

pub find_holders-requires : Rattle.sim_territory.proofs.sums.Sums.find_all.Goals.find_holders-requires
find_holders-requires c = record { full = c.requires; west = omega arith; east = omega arith; south = omega arith; north = omega arith }

pub returns : Rattle.sim_territory.proofs.sums.Sums.find_all.Goals.returns
returns c =
    let full : length c.args.holders.now.items ≡ c.args.self.now.width * c.args.self.now.depth = omega (arith, c.requires, c.args.holders.now.ok.0) in
    all_found c.args.self.now c.args.holders.now.items c.find_holders.new.holders.items full c.find_holders.ensures
