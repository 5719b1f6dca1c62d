-- The law is a lemma.
use Rattle.sim_plans.proofs.FactLists.{unheard}

pub returns : Rattle.sim_plans.proofs.notes.what_is_not_heard_changes_nothing.Goals.returns
returns c = unheard
