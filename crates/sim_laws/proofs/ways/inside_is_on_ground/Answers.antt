-- The law is a lemma on the cell of a point.
use Rattle.sim_laws.proofs.Commanding.{inside-on_ground}

pub returns : Rattle.sim_laws.proofs.ways.inside_is_on_ground.Goals.returns
returns c = inside-on_ground
