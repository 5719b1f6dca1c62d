-- One row more passes, or the answer is no.
use Rattle.sim_codec.proofs.{Checked.all_seen, Checked.one_more, Common.refl, Common.IsKnownRow}

pub loop-row-preserved : Rattle.sim_codec.proofs.validity.Ascending.are_known.Goals.loop-row-preserved
loop-row-preserved c = one_more (IsKnownRow 1 c.args.setup.now c.args.self.now.rows.now) c.args.self.now.rows.now c.loop-row.row-index c.row-item.result c.is_known_row.result
    c.loop-row-test.true c.row-item.is c.is_known_row.ensures c.if-not-is_known_row.false c.loop-row.invariant

pub returns : Rattle.sim_codec.proofs.validity.Ascending.are_known.Goals.returns
returns c = (
  λ _. all_seen (IsKnownRow 1 c.args.setup.now c.args.self.now.rows.now) c.args.self.now.rows.now c.loop-row.row-index c.loop-row-test.false c.loop-row.invariant,
  λ _. refl,
)
