-- Both parts of a row are changed, one after the other.
use Rattle.sim_territory.proofs.{Common.◌≤◌, Common.arith, Moving.both_move, Moving.east_may, Moving.part_ends, Moving.place-later, Moving.west_may}
use Rattle.sim_territory.proofs.sums.Sums.shift_row.Goals as goal

pub shift_west-requires-clause-may : goal.shift_west-requires-clause-may
shift_west-requires-clause-may c = record {
  place = c.requires.place;
  row = c.requires.row;
  may = west_may c.args.comes c.args.building.now c.args.self.now c.args.self.now c.args.z c.columns_of-west.result.0 c.args.building.now.cell.x
      c.requires.may;
}

pub shift_east-requires-clause-may : goal.shift_east-requires-clause-may
shift_east-requires-clause-may c =
    let b = c.args.building.now in
    let old = c.args.self.now in
    let mid = c.shift_west.new.self in
    record {
      place = place-later old mid b.owner b.cell c.shift_west.ensures.shape c.requires.place;
      row = let depth = c.shift_west.ensures.shape.depth in let row = c.requires.row in omega arith;
      may = east_may c.args.comes b old mid c.args.z c.columns_of-west.result.0 b.cell.x c.columns_of-west.result.1 c.shift_west.ensures c.requires.may;
    }

pub returns : goal.returns
returns c =
    let b = c.args.building.now in
    let west = c.columns_of-west.result.0 in
    let east = c.columns_of-west.result.1 in
    let below : b.cell.x ≤ east = omega (arith, c.columns_of-west.ensures.east) in
    part_ends c.args.comes b c.args.self.now c.shift_east.new.self c.args.z west east c.columns_of-west.ensures.all
    (both_move c.args.comes b c.args.self.now c.shift_west.new.self c.args.z west b.cell.x east c.shift_east.new.self c.columns_of-west.ensures.west below
    c.shift_west.ensures c.shift_east.ensures)
