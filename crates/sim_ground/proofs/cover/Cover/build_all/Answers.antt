-- One obstruction more is stepped on.
use Rattle.sim_ground.proofs.{Common.arith, Common.Cell, Common.Fact, Common.rect_covers, Common.◌∙◌, Layers.next_may, Layers.next_rises_at}

pub step_built-requires : Rattle.sim_ground.proofs.cover.Cover.build_all.Goals.step_built-requires
step_built-requires c =
    next_may (λ (f : Fact) (cell : Cell). rect_covers f.rect cell) c.args.facts.now c.args.self.now.grid.size c.loop-fact.self.grid.size
    c.args.self.now.layers.items c.loop-fact.self.layers.items c.loop-fact.fact-index c.fact-item.result c.loop-fact.invariant.size (grind arith)
    c.loop-fact.invariant.layers
    c.requires.most c.requires.few

pub loop-fact-preserved : Rattle.sim_ground.proofs.cover.Cover.build_all.Goals.loop-fact-preserved
loop-fact-preserved c = record {
  size = c.step_built.ensures.size ∙ c.loop-fact.invariant.size;
  layers = next_rises_at (λ (f : Fact) (cell : Cell). rect_covers f.rect cell) c.args.facts.now c.args.self.now.grid.size c.loop-fact.self.grid.size
      c.args.self.now.layers.items c.loop-fact.self.layers.items c.loop-fact.fact-index c.fact-item.result c.loop-fact.invariant.size (grind arith)
      c.loop-fact.invariant.layers
      c.fact-item.is c.step_built.new.self.layers.items c.step_built.ensures.layers;
}
