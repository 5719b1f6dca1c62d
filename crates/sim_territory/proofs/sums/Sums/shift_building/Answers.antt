-- One row more is changed.
use Rattle.sim_territory.proofs.{Common.{arith, share_where, subst, SumsMove, ℕ, ◌≡◌}, Moving.{in_rows, place-later, rows_begin, rows_end, rows_may, rows_move}}
use Rattle.sim_territory.proofs.sums.Sums.shift_building.Goals as goal

pub loop-z-init : goal.loop-z-init
loop-z-init c = record {
  from = omega arith;
  moved = rows_begin c.args.comes c.args.building.now c.args.self.now c.args.self.now c.rows-south.result.0;
}

pub shift_row-requires : goal.shift_row-requires
shift_row-requires c =
    let b = c.args.building.now in
    let old = c.args.self.now in
    let mid = c.loop-z.self in
    let shape = c.loop-z.invariant.moved.shape in
    record {
      place = place-later old mid b.owner b.cell shape c.requires.place;
      row = let depth = shape.depth in let most = c.rows-south.ensures.most in let below = c.loop-z-test.true in omega arith;
      may = rows_may c.args.comes b old mid c.rows-south.result.0 c.loop-z.z c.loop-z.invariant.moved c.requires.may;
    }

pub loop-z-preserved : goal.loop-z-preserved
loop-z-preserved c = record {
  from = omega arith;
  moved = rows_move c.args.comes c.args.building.now c.args.self.now c.loop-z.self c.rows-south.result.0 c.loop-z.z c.shift_row.new.self c.loop-z.invariant.from
      c.loop-z.invariant.moved c.shift_row.ensures;
}

pub returns : goal.returns
returns c =
    let b = c.args.building.now in
    let old = c.args.self.now in
    let new = c.loop-z.self in
    let south = c.rows-south.result.0 in
    let end : c.loop-z.z ≡ c.rows-south.result.1 = omega (arith, c.loop-z.auto.z-end, c.rows-south.ensures.order) in
    rows_end c.args.comes b old new south c.rows-south.result.1 c.rows-south.ensures.all
    (subst (λ (n : ℕ). SumsMove c.args.comes (share_where (in_rows south n) b) old new) end c.loop-z.invariant.moved)
