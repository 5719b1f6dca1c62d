-- A valid state has rows of known templates alone.
use Rattle.sim_report.proofs.KnownTemplates.{templates_known}

pub push_show-requires : Rattle.sim_top.proofs.commands.showing.show_text.Goals.push_show-requires
push_show-requires c = templates_known 1 c.args.setup.now c.args.state.now c.requires
