-- The law is a lemma.
use Rattle.sim_plans.proofs.Answering.{answers_agree}

pub returns : Rattle.sim_plans.proofs.answers.answers_are_those_over_the_rows.Goals.returns
returns c = answers_agree
