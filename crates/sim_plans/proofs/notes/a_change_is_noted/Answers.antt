-- The laws are lemmas.
use Rattle.sim_plans.proofs.Removing.{change_is_noted, notes_fit}

pub returns : Rattle.sim_plans.proofs.notes.a_change_is_noted.Goals.returns
returns c = record { facts = change_is_noted; fit = notes_fit }
