-- The two clauses are the lemmas of short ways and few rows.
use Rattle.sim_codec.proofs.ShortWays.{few_rows, short_ways}

pub returns : Rattle.sim_codec.proofs.laws.states_can_be_told.Goals.returns
returns c = record { short = short_ways; few = few_rows }
