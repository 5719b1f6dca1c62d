use Rattle.sim_path.proofs.{Common.arith, Common.field_of_grid, Common.IfOk-from_err, NearestEnds.rows-begin, NearestEnds.rows-done}
use Rattle.sim_path.proofs.nearest.scan.Goals as goal

pub loop-z-init : goal.loop-z-init
loop-z-init c = rows-begin (field_of_grid c.args.shore.now.grid.now) c.args.shore.now.start c.args.goal c.args.window c.args.window.z0 _ (omega arith) c.new.ensures.items
    (omega arith)

pub loop-z-preserved : goal.loop-z-preserved
loop-z-preserved c = c.in_ok-scan_row.ensures

pub returns : goal.returns
returns c = rows-done (field_of_grid c.args.shore.now.grid.now) c.args.shore.now.start c.args.goal c.args.window c.loop-z.z c.loop-z.ends c.loop-z-test.false c.loop-z.invariant

pub returns-in_err-scan_row : goal.returns-in_err-scan_row
returns-in_err-scan_row c = IfOk-from_err _ _ c.from_residual.ensures.0
