-- A row is told where it has the part.
use Rattle.{sim_bytes.proofs.{section.tell_rows.Goals.{in-Some+in_ok-tell, in_default}, Steps.{bytes_none, bytes_some}}, std.proofs.Common.subst}

pub loop-row-preserved : Rattle.sim_bytes.proofs.section.tell_rows.Goals.loop-row-preserved
loop-row-preserved g c = elim c.match-of.branch [
  | in-Some+in_ok-tell w ↦ λ about told h. rw w.out-is (subst (g.K.ByteSink.holds w.tell.new.out about)
      (bytes_some g.R.RowForm.spelled g.R.RowForm.in_row c.args.rows.now c.loop-row.row-index c.row-item.result w.in-Some.found told c.loop-row-test.true
      c.row-item.is w.in-Some.ensures)
      (w.in_ok-tell.ensures about _ (c.loop-row.invariant about told h)))
  | in_default w ↦ λ about told h. rw w.out-is (subst (g.K.ByteSink.holds c.loop-row.out about)
      (bytes_none g.R.RowForm.spelled g.R.RowForm.in_row c.args.rows.now c.loop-row.row-index c.row-item.result told c.loop-row-test.true c.row-item.is
      w.in_default.ensures)
      (c.loop-row.invariant about told h))
]
