use Rattle.sim_laws.proofs.Turning.{after_counts_turns, after_is_valid}

pub returns : Rattle.sim_laws.proofs.turns.after_a_past_a_state_is_valid.Goals.returns
returns c = record { valid = after_is_valid; counted = after_counts_turns }
