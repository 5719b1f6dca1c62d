-- The place that was found is that of the one row with this id.
use Rattle.{sim_base.proofs.RowPlaces.{row_missing, row_there}, sim_codec.proofs.OfEntity.{bits_absent, bits_there}}

pub returns-in-None : Rattle.sim_codec.proofs.bits.bits_of.Goals.returns-in-None
returns-in-None c =
    let none = rw c.as_slice-rows.ensures at c.in-None.ensures in
    bits_absent c.args.state.now c.args.entity c.args.part c.absent.result c.if-entity-eq1.false (row_missing c.args.state.now.rows c.args.entity none)
    c.absent.ensures

pub returns-in-Some : Rattle.sim_codec.proofs.bits.bits_of.Goals.returns-in-Some
returns-in-Some c =
    let place = rw c.as_slice-rows.ensures at c.in-Some.ensures in
    let is = rw c.as_slice-rows.ensures at c.index-rows-at.is in
    bits_there c.args.state.now c.args.entity c.args.part c.index-rows-at.result c.bits_of_row.result c.if-entity-eq1.false
    (row_there c.args.state.now.rows c.args.entity c.in-Some.at c.index-rows-at.result c.requires.ascending place.0 is place.1) c.bits_of_row.ensures
