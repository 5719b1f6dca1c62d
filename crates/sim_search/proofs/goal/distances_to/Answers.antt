-- The costs from an open cell are the distances to it.
use Rattle.sim_search.{proofs.{Common.{Cell, cost_in, field_of_grid}, Guiding.{numbers-distances, same-distances}}, specs.Rows.{number_in, number_of}}

pub returns-clause-distances : Rattle.sim_search.proofs.goal.distances_to.Goals.returns-clause-distances
returns-clause-distances c =
    let field = field_of_grid c.args.grid.now in
    let cost = cost_in c.in_ok-search.search.costs in
    same-distances field c.args.goal (λ (v : Cell). number_of (cost v)) (number_in c.in_ok-distances.distances) c.in_ok-distances.ensures.numbers
    (numbers-distances field c.args.goal cost c.in_ok-search.ensures.costs c.requires.on c.requires.is_open)
