use Rattle.sim_search.proofs.Common.{inl, inr}

pub returns-in-Some : Rattle.sim_search.proofs.mend.label_for.Goals.returns-in-Some
returns-in-Some c = inl (c.label_about.ensures c.in-Some.label c.in-Some.is)

pub returns-in-None : Rattle.sim_search.proofs.mend.label_for.Goals.returns-in-None
returns-in-None c = inr c.place_in.ensures
