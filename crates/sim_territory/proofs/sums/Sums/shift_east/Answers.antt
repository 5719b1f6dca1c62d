-- One cell more of the row is changed.
use Rattle.sim_territory.proofs.Common.{abs_diff, ap, arith, get_or, get_or_default, in_part, length, MayMove, Moves, refl, share_where, size_in, strength_of}
use Rattle.sim_territory.proofs.{Common.{subst, sum_place, SumsMove, sym, ℕ, ◌*◌, ◌+◌, ◌<◌, ◌∙◌, ◌≡◌, ◌≤◌}, Moving.part_begins}
use Rattle.sim_territory.proofs.RowSteps.{along_row, cell_on, step_may, step_moves, step_within, strength-on}
use Rattle.sim_territory.proofs.sums.Sums.shift_east.Goals as goal

pub loop-x-init : goal.loop-x-init
loop-x-init c = record {
  from = omega arith;
  moved = part_begins c.args.comes c.args.building.now c.args.self.now c.args.self.now c.args.z c.args.building.now.cell.x;
}

pub moved-requires : goal.moved-requires
moved-requires c =
    let b = c.args.building.now in
    let may = c.requires.may in
    let old = c.args.self.now in
    let mid = c.loop-x.self in
    let x = c.loop-x.x in
    let place = c.place-first.result + c.from.result in
    let from : c.args.building.now.cell.x ≤ x = c.loop-x.invariant.from in
    let below : x < c.args.east = omega (arith, c.loop-x-test.true) in
    let on : x < old.width = omega (arith, below, c.requires.most) in
    let is : place ≡ sum_place (size_in old) b.owner (cell_on x c.args.z) = ap (λ (n : ℕ). c.place-first.result + n) c.from.ensures ∙
    along_row old b.owner c.args.z c.place-first.result x c.place-first.ensures.place in
    let full : length mid.items.items ≡ mid.players * (mid.width * mid.depth) = omega (arith, mid.full, mid.items.ok.0) in
    let within = step_within c.args.comes b old mid c.args.z c.args.building.now.cell.x x place c.loop-x.invariant.moved may.place on may.row is
    full in
    let found : c.index.result.now ≡ get_or mid.items.items place 0 = c.index.ensures ∙ get_or_default mid.items.items place c.index.result.now 0 within in
    let beside : c.from-along.result ≡ abs_diff b.cell.x x = omega (arith, c.from-along.ensures, from, below) in
    let strong : c.strength-strength.result ≡ strength_of b (cell_on x c.args.z) = strength-on b x c.args.z c.from-along.result c.from-across.result
    c.strength-strength.result beside (c.from-across.ensures ∙ c.abs_diff.ensures) c.strength-strength.ensures in
    subst (λ (n : ℕ). MayMove c.args.comes n c.index.result.now) (sym strong)
    (subst (λ (n : ℕ). MayMove c.args.comes (strength_of b (cell_on x c.args.z)) n) (sym found)
    (step_may c.args.comes b old mid c.args.z c.args.building.now.cell.x x place c.loop-x.invariant.moved may.place on may.row is c.args.east from
    below may.may))

pub loop-x-preserved : goal.loop-x-preserved
loop-x-preserved c =
    let b = c.args.building.now in
    let may = c.requires.may in
    let old = c.args.self.now in
    let mid = c.loop-x.self in
    let x = c.loop-x.x in
    let place = c.place-first.result + c.from.result in
    let from : c.args.building.now.cell.x ≤ x = c.loop-x.invariant.from in
    let below : x < c.args.east = omega (arith, c.loop-x-test.true) in
    let on : x < old.width = omega (arith, below, c.requires.most) in
    let is : place ≡ sum_place (size_in old) b.owner (cell_on x c.args.z) = ap (λ (n : ℕ). c.place-first.result + n) c.from.ensures ∙
    along_row old b.owner c.args.z c.place-first.result x c.place-first.ensures.place in
    let full : length mid.items.items ≡ mid.players * (mid.width * mid.depth) = omega (arith, mid.full, mid.items.ok.0) in
    let within = step_within c.args.comes b old mid c.args.z c.args.building.now.cell.x x place c.loop-x.invariant.moved may.place on may.row is
    full in
    let found : c.index.result.now ≡ get_or mid.items.items place 0 = c.index.ensures ∙ get_or_default mid.items.items place c.index.result.now 0 within in
    let beside : c.from-along.result ≡ abs_diff b.cell.x x = omega (arith, c.from-along.ensures, from, below) in
    let strong : c.strength-strength.result ≡ strength_of b (cell_on x c.args.z) = strength-on b x c.args.z c.from-along.result c.from-across.result
    c.strength-strength.result beside (c.from-across.ensures ∙ c.abs_diff.ensures) c.strength-strength.ensures in
    let step : Moves c.args.comes (strength_of b (cell_on x c.args.z)) (get_or mid.items.items place 0) c.moved.result =
    subst (λ (n : ℕ). Moves c.args.comes n (get_or mid.items.items place 0) c.moved.result) strong
    (subst (λ (n : ℕ). Moves c.args.comes c.strength-strength.result n c.moved.result) found c.moved.ensures) in
    record {
      from = omega arith;
      moved = step_moves c.args.comes b old mid c.args.z c.args.building.now.cell.x x place c.loop-x.invariant.moved may.place on may.row is _
          c.moved.result from
          (record { width = refl; depth = refl; players = refl }) refl full step;
    }

pub returns : goal.returns
returns c =
    let b = c.args.building.now in
    let end : c.loop-x.x ≡ c.args.east = omega (arith, c.loop-x.auto.x-end, c.requires.order) in
    subst (λ (n : ℕ). SumsMove c.args.comes (share_where (in_part c.args.z c.args.building.now.cell.x n) b) c.args.self.now c.loop-x.self) end
    c.loop-x.invariant.moved
