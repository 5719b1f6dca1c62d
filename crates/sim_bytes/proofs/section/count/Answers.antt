-- A row counts where it has the part.
use Rattle.{sim_bytes.proofs.{section.count.Goals.{else-is_in, then-is_in}, Steps.{count_none, count_some}}, std.proofs.Common.{arith, ◌∙◌}}

pub loop-row-preserved : Rattle.sim_bytes.proofs.section.count.Goals.loop-row-preserved
loop-row-preserved g c = elim c.if-is_in.branch [
  | then-is_in w ↦ record {
    found = w.found-is ∙ count_some g.R.RowForm.in_row c.args.rows.now c.loop-row.row-index c.loop-row.found c.row-item.result c.loop-row-test.true
        c.row-item.is w.if-is_in.ensures c.loop-row.invariant.found;
    few = omega (arith, w.found-is, c.loop-row.invariant.few);
  }
  | else-is_in w ↦ record {
    found = w.found-is ∙ count_none g.R.RowForm.in_row c.args.rows.now c.loop-row.row-index c.loop-row.found c.row-item.result c.loop-row-test.true
        c.row-item.is w.if-is_in.ensures c.loop-row.invariant.found;
    few = omega (arith, w.found-is, c.loop-row.invariant.few);
  }
]
