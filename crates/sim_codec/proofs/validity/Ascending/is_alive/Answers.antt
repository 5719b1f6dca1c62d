-- An id stands once.
use Rattle.sim_codec.proofs.{Common.is_some, Common.id_of, Common.Row, Halves.found, Halves.missing}

pub returns-in-Some : Rattle.sim_codec.proofs.validity.Ascending.is_alive.Goals.returns-in-Some
returns-in-Some c =
    found id_of (λ (row : Row). is_some row.health) c.args.self.now.rows.now c.args.id c.in-Some.at c.index-self-at.result c.is_some.result c.args.self.now.ascending
    c.in-Some.ensures.0 c.index-self-at.is c.in-Some.ensures.1 c.is_some.ensures

pub returns-in-None : Rattle.sim_codec.proofs.validity.Ascending.is_alive.Goals.returns-in-None
returns-in-None c = missing id_of (λ (row : Row). is_some row.health) c.args.self.now.rows.now c.args.id c.in-None.ensures
