-- Both are lemmas.
use Rattle.sim_session.proofs.Showing.{plays_are_told, steps_are_told}

pub returns : Rattle.sim_session.proofs.laws.each_play_is_printed.Goals.returns
returns c = record { plays = plays_are_told; steps = steps_are_told }
