use Rattle.sim_search.proofs.Regions.{labels-tell}

pub returns : Rattle.sim_search.proofs.laws.labels_tell.Goals.returns
returns c = labels-tell
