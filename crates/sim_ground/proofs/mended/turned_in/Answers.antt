-- The cells of one row more are added, if they were turned, and in the end those of the window, which are those of the rectangle.
use Rattle.sim_ground.proofs.mended.turned_in.Goals as goal
use Rattle.sim_ground.proofs.{Adding.{adds_more, adds_nothing, adds_same}, Common.{arith, Cell, covers, in_row, in_rows, label_in, List, subst, sym, ℕ, []}}
use Rattle.sim_ground.{proofs.{Common.{◌+◌, ◌≡◌}, Layers.{rows_more, rows_none}}, specs.{Closing.in_window, Mending.AddsTurned}}

pub loop-z-init : goal.loop-z-init
loop-z-init c =
    let w = c.window_of-window.result in
    let none = in_rows w.south w.south w.west w.east in
    record {
      from = omega arith;
      adds = subst (λ (xs : List Cell). AddsTurned c.args.grid.now (label_in c.args.labels.now) none [] xs) (sym c.in_ok-cells.ensures.items)
          (adds_nothing c.args.grid.now (label_in c.args.labels.now) none [] (rows_none w.south w.west w.east));
    }

pub loop-z-preserved : goal.loop-z-preserved
loop-z-preserved c =
    let w = c.window_of-window.result in
    record {
      from = omega (arith, c.loop-z.invariant.from);
      adds = adds_more c.args.grid.now (label_in c.args.labels.now) (in_rows w.south c.loop-z.z w.west w.east) (in_row c.loop-z.z w.west w.east)
          (in_rows w.south (c.loop-z.z + 1) w.west w.east) [] c.loop-z.cells.items c.push_row.new.cells.items
          (λ e. rows_more w.south c.loop-z.z w.west w.east e c.loop-z.invariant.from) c.loop-z.invariant.adds c.in_ok-push_row.ensures;
    }

pub returns : goal.returns
returns c =
    let w = c.window_of-window.result in
    let end : c.loop-z.z ≡ w.north = omega (arith, c.loop-z.auto.z-end, c.loop-z-test.false, c.window_of-window.ensures.on.rows) in
    adds_same c.args.grid.now (label_in c.args.labels.now) (in_window w) (covers c.args.rect.now) [] c.loop-z.cells.items c.window_of-window.ensures.same
    (subst (λ (n : ℕ). AddsTurned c.args.grid.now (label_in c.args.labels.now) (in_rows w.south n w.west w.east) [] c.loop-z.cells.items) end
    c.loop-z.invariant.adds)
