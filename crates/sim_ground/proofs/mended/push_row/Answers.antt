-- One cell more is added, if it was turned.
use Rattle.sim_ground.proofs.mended.push_row.Goals as goal
use Rattle.sim_ground.proofs.{Adding.adds_more, Adding.adds_nothing, Common.Cell, Common.arith, Common.in_row, Common.label_in, Common.same_cell, Common.subst}
use Rattle.sim_ground.{proofs.Common.ℕ, proofs.Common.◌+◌, proofs.Common.◌≡◌, proofs.Layers.row_more, proofs.Layers.row_none, specs.Mending.AddsTurned}

pub loop-x-init : goal.loop-x-init
loop-x-init c = record {
  from = omega arith;
  adds = adds_nothing c.args.grid.now (label_in c.args.labels.now) (in_row c.args.z c.args.window.west c.args.window.west) c.args.cells.now.items
      (row_none c.args.z c.args.window.west);
}

pub push_turned-requires : goal.push_turned-requires
push_turned-requires c = record { east = omega (arith, c.loop-x-test.true, c.requires.on.east); north = c.requires.row }

pub loop-x-preserved : goal.loop-x-preserved
loop-x-preserved c = record {
  from = omega (arith, c.loop-x.invariant.from);
  adds = adds_more c.args.grid.now (label_in c.args.labels.now) (in_row c.args.z c.args.window.west c.loop-x.x)
      (λ (e : Cell). same_cell e (record { x = c.loop-x.x; z = c.args.z })) (in_row c.args.z c.args.window.west (c.loop-x.x + 1)) c.args.cells.now.items
      c.loop-x.cells.items c.push_turned.new.cells.items (λ e. row_more c.args.z c.args.window.west c.loop-x.x e c.loop-x.invariant.from)
      c.loop-x.invariant.adds c.in_ok-push_turned.ensures;
}

pub returns : goal.returns
returns c =
    let end : c.loop-x.x ≡ c.args.window.east = omega (arith, c.loop-x.auto.x-end, c.loop-x-test.false, c.requires.on.order) in
    subst (λ (n : ℕ). AddsTurned c.args.grid.now (label_in c.args.labels.now) (in_row c.args.z c.args.window.west n) c.args.cells.now.items
    c.loop-x.cells.items) end c.loop-x.invariant.adds
