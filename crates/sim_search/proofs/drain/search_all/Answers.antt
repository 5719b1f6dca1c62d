-- An estimate that tells nothing guides each search.
use Rattle.sim_search.proofs.{Common.field_of_grid, Guiding.nothing-guides}

pub started-requires-clause-guide : Rattle.sim_search.proofs.drain.search_all.Goals.started-requires-clause-guide
started-requires-clause-guide c = nothing-guides (field_of_grid c.args.grid.now) c.args.start
