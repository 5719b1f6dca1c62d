use Rattle.sim_plain_session.proofs.Examples.{bends_are_hidden, full_is_digest, others_are_quick}

pub returns : Rattle.sim_plain_session.proofs.marks.reports_are_full_or_quick.Goals.returns
returns c = record { full = full_is_digest; others = others_are_quick; hidden = bends_are_hidden }
