-- The law is a lemma.
use Rattle.sim_plans.proofs.Removing.{state_in_range}

pub returns : Rattle.sim_plans.proofs.notes.a_state_is_in_range.Goals.returns
returns c = state_in_range
