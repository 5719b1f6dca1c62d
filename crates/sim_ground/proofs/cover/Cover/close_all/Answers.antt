-- One rectangle more is stepped on.
use Rattle.sim_ground.proofs.{Common.Cell, Common.covers, Common.Rect, Common.◌∙◌, Layers.next_may, Layers.next_rises}

pub step_rect-requires : Rattle.sim_ground.proofs.cover.Cover.close_all.Goals.step_rect-requires
step_rect-requires c =
    next_may (λ (r : Rect) (cell : Cell). covers r cell) c.args.closed.now c.args.self.now.grid.size c.loop-rect.self.grid.size c.args.self.now.layers.items
    c.loop-rect.self.layers.items c.loop-rect.rect-index _ c.loop-rect.invariant.size c.loop-rect-test.true c.loop-rect.invariant.layers c.requires.most
    c.requires.few

pub loop-rect-preserved : Rattle.sim_ground.proofs.cover.Cover.close_all.Goals.loop-rect-preserved
loop-rect-preserved c = record {
  size = c.step_rect.ensures.size ∙ c.loop-rect.invariant.size;
  layers = next_rises (λ (r : Rect) (cell : Cell). covers r cell) c.args.closed.now c.args.self.now.grid.size c.loop-rect.self.grid.size
      c.args.self.now.layers.items c.loop-rect.self.layers.items c.loop-rect.rect-index _ c.loop-rect.invariant.size c.loop-rect-test.true
      c.loop-rect.invariant.layers
      c.step_rect.new.self.layers.items c.step_rect.ensures.layers;
}
