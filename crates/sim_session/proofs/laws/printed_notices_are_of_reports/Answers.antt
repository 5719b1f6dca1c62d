-- It is a lemma.
use Rattle.sim_session.proofs.Noticing.{notices_are_of_reports}

pub returns : Rattle.sim_session.proofs.laws.printed_notices_are_of_reports.Goals.returns
returns c = notices_are_of_reports
