-- The cell whose neighbour has the label is among them.
use Rattle.sim_search.proofs.Common.{Contains-get_or, get_or}

pub returns-then-is_some : Rattle.sim_search.proofs.mend.label_about.Goals.returns-then-is_some
returns-then-is_some c = λ l e. record {
  from = get_or c.args.cells.now c.loop-cell.cell-index (record { x = 0; z = 0 });
  listed = Contains-get_or c.args.cells.now c.loop-cell.cell-index (record { x = 0; z = 0 }) c.loop-cell-test.true;
  next = c.label_beside-label.ensures l e;
}
