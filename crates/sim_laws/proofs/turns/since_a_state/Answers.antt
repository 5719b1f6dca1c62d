use Rattle.sim_laws.proofs.Turning.{from_counts_turns, from_keeps_valid}

pub returns : Rattle.sim_laws.proofs.turns.since_a_state.Goals.returns
returns c = record { valid = from_keeps_valid; counted = from_counts_turns }
