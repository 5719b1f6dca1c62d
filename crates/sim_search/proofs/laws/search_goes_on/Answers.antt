use Rattle.sim_search.proofs.Taking.{lowering-keeps, taking-keeps}

pub returns : Rattle.sim_search.proofs.laws.search_goes_on.Goals.returns
returns c = record { lowering = lowering-keeps; taking = taking-keeps }
