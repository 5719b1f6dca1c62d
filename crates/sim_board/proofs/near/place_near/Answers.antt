-- A row a little behind the place with the id is the one that is found.
use Rattle.sim_board.proofs.Common.{row_at}

pub returns-in-Some : Rattle.sim_board.proofs.near.place_near.Goals.returns-in-Some
returns-in-Some c = (c.in-Some.ensures.0, λ d. row_at c.args.rows.now c.args.id c.in-Some.at d c.requires c.in-Some.ensures.0 c.in-Some.ensures.1)
