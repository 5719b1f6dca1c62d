-- One row more is stepped on.
use Rattle.sim_ground.proofs.cover.Cover.step_window.Goals as goal
use Rattle.sim_ground.proofs.{Common.{arith, in_rows, refl, Size, subst, sym, ℕ, ◌<◌, ◌∙◌, ◌≡◌}, cover.Cover.step_window.Goals.{else-step_row, then-step_row}}
use Rattle.sim_ground.{proofs.Layers.{changes_nothing, rows_may, rows_none, rows_steps}, specs.{Closing.LiesOn, Covering.Changes}}

pub loop-z-init : goal.loop-z-init
loop-z-init c =
    let w = c.args.window in
    record {
      from = omega arith;
      changes = record {
        size = refl;
        layers = changes_nothing c.args.more c.args.self.now.grid.size (in_rows w.south w.south w.west w.east) c.args.self.now.layers.items
            (rows_none w.south w.west w.east);
        same = λ e. refl;
      };
    }

pub step_row-requires-clause-on : goal.step_row-requires-clause-on
step_row-requires-clause-on c = subst (λ (s : Size). LiesOn s c.args.window) (sym c.loop-z.invariant.changes.size) c.requires.on

pub step_row-requires-clause-row : goal.step_row-requires-clause-row
step_row-requires-clause-row c =
    subst (λ (s : Size). c.loop-z.z < s.depth) (sym c.loop-z.invariant.changes.size) (omega (arith, c.loop-z-test.true, c.requires.on.north))

pub step_row-requires-clause-may : goal.step_row-requires-clause-may
step_row-requires-clause-may c =
    let w = c.args.window in
    let changes = c.loop-z.invariant.changes in
    rows_may c.args.more c.args.self.now.grid.size c.loop-z.self.grid.size c.args.self.now.layers.items c.loop-z.self.layers.items changes.size
    w.south w.north w.west w.east c.loop-z.z c.loop-z.invariant.from c.loop-z-test.true changes.layers c.requires.may

pub loop-z-preserved : goal.loop-z-preserved
loop-z-preserved c =
    let w = c.args.window in
    let changes = c.loop-z.invariant.changes in
    record {
      from = omega (arith, c.loop-z.invariant.from);
      changes = record {
        size = c.step_row.ensures.size ∙ changes.size;
        layers = rows_steps c.args.more c.args.self.now.grid.size c.loop-z.self.grid.size c.args.self.now.layers.items c.loop-z.self.layers.items
            changes.size w.south w.west w.east c.loop-z.z c.step_row.new.self.layers.items c.loop-z.invariant.from changes.layers c.step_row.ensures.layers;
        same = λ e. elim c.if-step_row.branch [
          | then-step_row v ↦ absurd (let f = v.turned-is in cc)
          | else-step_row v ↦ c.step_row.ensures.same v.if-step_row.false ∙ changes.same (let f = v.turned-is in cc)
        ];
      };
    }

pub returns : goal.returns
returns c =
    let w = c.args.window in
    let end : c.loop-z.z ≡ w.north = omega (arith, c.loop-z.auto.z-end, c.loop-z-test.false, c.requires.on.rows) in
    subst (λ (n : ℕ). Changes c.args.more (in_rows w.south n w.west w.east) c.loop-z.turned c.args.self.now c.loop-z.self) end
    c.loop-z.invariant.changes
