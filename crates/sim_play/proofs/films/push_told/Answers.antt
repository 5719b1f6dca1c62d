-- A valid state has rows of known templates alone.
use Rattle.sim_play.proofs.Common.{templates_known}

pub push_show-requires : Rattle.sim_play.proofs.films.push_told.Goals.push_show-requires
push_show-requires c = templates_known 1 c.args.setup.now c.args.state.now c.requires.valid
