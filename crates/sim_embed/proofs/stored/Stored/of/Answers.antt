-- A valid state has few rows, and short ways.
use Rattle.sim_codec.proofs.ShortWays.{few_rows, short_ways}
use Rattle.sim_embed.proofs.stored.Stored.of.Goals as goal

pub spell-requires-clause-short : goal.spell-requires-clause-short
spell-requires-clause-short c = short_ways 1 c.args.setup.now c.args.state.now c.requires

pub spell-requires-clause-few : goal.spell-requires-clause-few
spell-requires-clause-few c = few_rows 1 c.args.setup.now c.args.state.now c.requires

pub digest-requires-clause-short : goal.digest-requires-clause-short
digest-requires-clause-short c = short_ways 1 c.args.setup.now c.args.state.now c.requires

pub digest-requires-clause-few : goal.digest-requires-clause-few
digest-requires-clause-few c = few_rows 1 c.args.setup.now c.args.state.now c.requires
