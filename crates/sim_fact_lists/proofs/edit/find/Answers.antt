-- The fact of the id stands at its place, if anywhere.
use Rattle.sim_fact_lists.proofs.Standing.{found_read, not_there}

pub returns-in-Ok : Rattle.sim_fact_lists.proofs.edit.find.Goals.returns-in-Ok
returns-in-Ok c = found_read c.args.facts.now c.args.id c.in-Ok.at _ c.requires c.in-Ok.ensures c.index-facts-at.is

pub returns-in-Err : Rattle.sim_fact_lists.proofs.edit.find.Goals.returns-in-Err
returns-in-Err c = not_there c.args.facts.now c.args.id c.in-Err.field-0 c.in-Err.ensures
