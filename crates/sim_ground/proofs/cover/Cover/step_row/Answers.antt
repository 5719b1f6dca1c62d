-- One cell more is stepped on.
use Rattle.sim_ground.proofs.cover.Cover.step_row.Goals as goal
use Rattle.sim_ground.proofs.{Common.{arith, in_row, IsOnGround, refl, Size, subst, sym, ℕ, ◌∙◌, ◌≡◌}, cover.Cover.step_row.Goals.{else-step, then-step}}
use Rattle.sim_ground.{proofs.Layers.{changes_nothing, row_may, row_none, row_steps}, specs.Covering.Changes}

pub loop-x-init : goal.loop-x-init
loop-x-init c = record {
  from = omega arith;
  changes = record {
    size = refl;
    layers = changes_nothing c.args.more c.args.self.now.grid.size (in_row c.args.z c.args.window.west c.args.window.west) c.args.self.now.layers.items
        (row_none c.args.z c.args.window.west);
    same = λ e. refl;
  };
}

pub step-requires-clause-ground : goal.step-requires-clause-ground
step-requires-clause-ground c =
    let size = c.loop-x.invariant.changes.size in
    subst (λ (s : Size). IsOnGround s (record { x = c.loop-x.x; z = c.args.z })) (sym size)
    (record { east = omega (arith, c.loop-x-test.true, c.requires.on.east); north = c.requires.row })

pub step-requires-clause-may : goal.step-requires-clause-may
step-requires-clause-may c =
    let changes = c.loop-x.invariant.changes in
    row_may c.args.more c.args.self.now.grid.size c.loop-x.self.grid.size c.args.self.now.layers.items c.loop-x.self.layers.items changes.size
    c.args.z c.args.window.west c.args.window.east c.loop-x.x c.loop-x.invariant.from c.loop-x-test.true
    (record { east = omega (arith, c.loop-x-test.true, c.requires.on.east); north = c.requires.row }) changes.layers c.requires.may

pub loop-x-preserved : goal.loop-x-preserved
loop-x-preserved c =
    let changes = c.loop-x.invariant.changes in
    record {
      from = omega (arith, c.loop-x.invariant.from);
      changes = record {
        size = c.step.ensures.size ∙ changes.size;
        layers = row_steps c.args.more c.args.self.now.grid.size c.loop-x.self.grid.size c.args.self.now.layers.items c.loop-x.self.layers.items
            changes.size c.args.z c.args.window.west c.loop-x.x c.step.new.self.layers.items c.loop-x.invariant.from changes.layers c.step.ensures.layers;
        same = λ e. elim c.if-step.branch [
          | then-step w ↦ absurd (let f = w.turned-is in cc)
          | else-step w ↦ c.step.ensures.same w.if-step.false ∙ changes.same (let f = w.turned-is in cc)
        ];
      };
    }

pub returns : goal.returns
returns c =
    let end : c.loop-x.x ≡ c.args.window.east = omega (arith, c.loop-x.auto.x-end, c.loop-x-test.false, c.requires.on.order) in
    subst (λ (n : ℕ). Changes c.args.more (in_row c.args.z c.args.window.west n) c.loop-x.turned c.args.self.now c.loop-x.self) end
    c.loop-x.invariant.changes
