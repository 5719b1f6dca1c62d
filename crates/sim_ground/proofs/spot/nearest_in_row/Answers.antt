-- One cell more.
use Rattle.sim_ground.proofs.{Rows.fold-more_cell, Rows.fold-past_cell, spot.nearest_in_row.Goals.else-open, spot.nearest_in_row.Goals.then-open}
use Rattle.sim_ground.proofs.Common.{is_open_at, IsSmallIfAny, nearer, subst, sym, ◌∙◌}

pub loop-x-preserved : Rattle.sim_ground.proofs.spot.nearest_in_row.Goals.loop-x-preserved
loop-x-preserved c =
    let test = is_open_at c.args.grid.now in
    let step = nearer c.args.at.now in
    elim c.if-open.branch [
      | then-open w ↦ (
        fold-more_cell step test c.args.z c.loop-x.x c.args.first c.loop-x.best c.if-open.best c.loop-x.invariant.0 (sym c.open.ensures ∙ w.if-open.true)
            (w.best-is ∙ w.nearer_of-best.ensures.nearer),
        subst IsSmallIfAny (sym w.best-is) w.nearer_of-best.ensures.small,
      )
      | else-open w ↦ (
        w.best-is ∙ fold-past_cell step test c.args.z c.loop-x.x c.args.first c.loop-x.best c.loop-x.invariant.0 (sym c.open.ensures ∙ w.if-open.false),
        subst IsSmallIfAny (sym w.best-is) c.loop-x.invariant.1,
      )
    ]
