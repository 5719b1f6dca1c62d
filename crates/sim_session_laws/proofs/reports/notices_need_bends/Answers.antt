use Rattle.sim_session_laws.proofs.QuietFacts as facts

pub returns : Rattle.sim_session_laws.proofs.reports.notices_need_bends.Goals.returns
returns c = facts.notices_need_bends
