-- Both are lemmas.
use Rattle.sim_session.proofs.Differing.{apart_where_different, unbent_are_together}

pub returns : Rattle.sim_session.proofs.laws.clients_apart_differ.Goals.returns
returns c = record { different = apart_where_different; unbent = unbent_are_together }
