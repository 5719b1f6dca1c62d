-- A valid state has few rows, and short ways.
use Rattle.sim_play.proofs.Common.{few_rows, short_ways}

pub digest-requires-clause-short : Rattle.sim_play.proofs.lines.push_line.Goals.digest-requires-clause-short
digest-requires-clause-short c = short_ways 1 c.args.setup.now c.args.state.now c.requires

pub digest-requires-clause-few : Rattle.sim_play.proofs.lines.push_line.Goals.digest-requires-clause-few
digest-requires-clause-few c = few_rows 1 c.args.setup.now c.args.state.now c.requires
