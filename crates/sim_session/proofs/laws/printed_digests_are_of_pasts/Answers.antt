-- All are lemmas.
use Rattle.sim_session.proofs.Showing.{ends_show_pasts, events_show_pasts, starts_show_pasts, steps_show_pasts}

pub returns : Rattle.sim_session.proofs.laws.printed_digests_are_of_pasts.Goals.returns
returns c = record { starts = starts_show_pasts; steps = steps_show_pasts; events = events_show_pasts; ends = ends_show_pasts }
