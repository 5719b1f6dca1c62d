-- The cells between are those of the rectangle.
use Rattle.sim_ground.proofs.{Common.SFits, Common.arith, Common.rules, Common.to_z-of_z, Common.w32, Layers.rect_is}

pub returns-clause-on : Rattle.sim_ground.proofs.window.window_of.Goals.returns-clause-on
returns-clause-on c = record {
  rows = c.span-south.ensures.order;
  north = omega (arith, c.span-south.ensures.most, c.depth.ensures.depth);
  order = c.span-west.ensures.order;
  east = omega (arith, c.span-west.ensures.most, c.width.ensures.width);
}

pub returns-clause-same : Rattle.sim_ground.proofs.window.window_of.Goals.returns-clause-same
returns-clause-same c =
    let south : SFits w32 c.args.rect.now.z0 = search rules in
    let north : SFits w32 c.args.rect.now.z1 = search rules in
    let west : SFits w32 c.args.rect.now.x0 = search rules in
    let east : SFits w32 c.args.rect.now.x1 = search rules in
    let rows = simp to_z-of_z at c.span-south.ensures.span in
    let cells = simp to_z-of_z at c.span-west.ensures.span in
    rect_is c.args.grid.now.size c.args.rect.now c.span-south.result.0 c.span-south.result.1 c.span-west.result.0 c.span-west.result.1
    (λ n lt. rows n (omega (arith, lt, c.depth.ensures.depth))) (λ n lt. cells n (omega (arith, lt, c.width.ensures.width)))
