-- A building that is alive stands inside.
use Rattle.sim_orders.proofs.Common.{found_inside, sym}

pub ask-requires-clause-may : Rattle.sim_orders.proofs.asks.spot_of.Goals.ask-requires-clause-may
ask-requires-clause-may g c =
    found_inside c.args.scene.now.setup.now c.args.scene.now.state.now c.args.building c.in-Some.row.now c.requires.valid (sym c.in-Some.ensures)
