-- One row more.
use Rattle.sim_ground.proofs.{Common.None, Common.is_open_at, Common.nearer, Rows.fold-more_row}

pub loop-z-preserved : Rattle.sim_ground.proofs.spot.nearest.Goals.loop-z-preserved
loop-z-preserved c = (
  fold-more_row (nearer c.args.at.now) (is_open_at c.args.grid.now) c.args.grid.now.size.width c.loop-z.z None c.loop-z.best c.nearest_in_row-best.result
      c.loop-z.invariant.0 c.nearest_in_row-best.ensures.nearest,
  c.nearest_in_row-best.ensures.small,
)
