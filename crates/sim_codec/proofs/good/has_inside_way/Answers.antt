-- Both parts of the way lie inside.
use Rattle.sim_codec.proofs.{Common.IsInside, Common.point_in, StoredWays.no_way, StoredWays.whole_way}

pub returns-then-not-are_inside : Rattle.sim_codec.proofs.good.has_inside_way.Goals.returns-then-not-are_inside
returns-then-not-are_inside c = no_way (IsInside c.args.setup.now) point_in c.args.points.now c.args.stored.now c.are_inside.result c.are_inside.ensures
    c.if-not-are_inside.true

pub returns : Rattle.sim_codec.proofs.good.has_inside_way.Goals.returns
returns c = whole_way (IsInside c.args.setup.now) point_in c.args.points.now c.args.stored.now c.are_inside.result c.are_stored_inside.result c.requires
    c.are_inside.ensures c.if-not-are_inside.false c.are_stored_inside.ensures
