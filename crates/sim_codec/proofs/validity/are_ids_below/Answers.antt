-- One row more passes, or the answer is no.
use Rattle.sim_codec.proofs.{Checked.all_seen, Checked.one_more, Common.◌<◌, Common.◌≤◌, Common.refl}

pub loop-row-preserved : Rattle.sim_codec.proofs.validity.are_ids_below.Goals.loop-row-preserved
loop-row-preserved c = one_more (λ row. (2 ≤ row.id) × (row.id < c.args.next)) c.args.rows.now c.loop-row.row-index c.row-item.result c.is_id_below.result
    c.loop-row-test.true c.row-item.is c.is_id_below.ensures c.if-not-is_id_below.false c.loop-row.invariant

pub returns : Rattle.sim_codec.proofs.validity.are_ids_below.Goals.returns
returns c = (
  λ _. all_seen (λ row. (2 ≤ row.id) × (row.id < c.args.next)) c.args.rows.now c.loop-row.row-index c.loop-row-test.false c.loop-row.invariant,
  λ _. refl,
)
