use Rattle.sim_session_laws.proofs.Reporting.{reports_are_marks}
use Rattle.sim_session_laws.proofs.NoticeFacts as facts

pub returns : Rattle.sim_session_laws.proofs.reports.notices_show_differences.Goals.returns
returns c = record { marks = reports_are_marks; apart = facts.notices_show_differences }
