use Rattle.sim_search.proofs.Regions.{no_label-closed}

pub returns : Rattle.sim_search.proofs.laws.no_label_is_closed.Goals.returns
returns c = no_label-closed
