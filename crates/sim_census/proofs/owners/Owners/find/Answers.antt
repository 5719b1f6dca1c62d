-- One that stands in the list is found there.
use Rattle.{sim_census.proofs.Owning.found_owner, sim_census.specs.Owners.facts_in, sim_fact_lists.proofs.Standing.not_there}

pub returns-in-Ok : Rattle.sim_census.proofs.owners.Owners.find.Goals.returns-in-Ok
returns-in-Ok c =
    let s = c.args.self.now in
    found_owner s.owned.items c.args.id c.in-Ok.at c.index.result.now c.fact_of.result s.ascend c.in-Ok.ensures c.index.ensures c.fact_of.ensures

pub returns-in-Err : Rattle.sim_census.proofs.owners.Owners.find.Goals.returns-in-Err
returns-in-Err c = not_there (facts_in c.args.self.now.owned.items) c.args.id c.in-Err.field-0 c.in-Err.ensures
