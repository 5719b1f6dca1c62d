-- The layers of one cell are set.
use Rattle.sim_ground.proofs.{Common.{ap, OpenCells, place_of, refl, ℕ, ◌*◌, ◌+◌, ◌∙◌, ◌≡◌}, Layers.step_layers}

pub returns-then-before-after : Rattle.sim_ground.proofs.cover.Cover.step.Goals.returns-then-before-after
returns-then-before-after c =
    let place : c.from.result * c.from-2.result + c.from-3.result ≡ place_of c.args.self.now.grid.size c.args.cell =
    ap (λ (n : ℕ). n * c.from-2.result + c.from-3.result) c.from.ensures ∙ ap (λ (n : ℕ). c.args.cell.z * n + c.from-3.result)
    (c.from-2.ensures ∙ c.width.ensures.width) ∙ ap (λ (n : ℕ). c.args.cell.z * c.args.self.now.grid.size.width + n) c.from-3.ensures in
    record {
      size = ap (λ (g : OpenCells). g.size) c.set.ensures;
      layers = step_layers c.args.self.now.grid c.args.self.now.layers.items c.args.cell _ c.index-before.result.now c.stepped-after.result
          c.args.self.now.agree.full c.requires.ground place c.index-before.ensures c.args.more c.stepped-after.ensures;
      same = λ e. absurd (cc);
    }

pub returns-else-before-after : Rattle.sim_ground.proofs.cover.Cover.step.Goals.returns-else-before-after
returns-else-before-after c =
    let place : c.from.result * c.from-2.result + c.from-3.result ≡ place_of c.args.self.now.grid.size c.args.cell =
    ap (λ (n : ℕ). n * c.from-2.result + c.from-3.result) c.from.ensures ∙ ap (λ (n : ℕ). c.args.cell.z * n + c.from-3.result)
    (c.from-2.ensures ∙ c.width.ensures.width) ∙ ap (λ (n : ℕ). c.args.cell.z * c.args.self.now.grid.size.width + n) c.from-3.ensures in
    record {
      size = refl;
      layers = step_layers c.args.self.now.grid c.args.self.now.layers.items c.args.cell _ c.index-before.result.now c.stepped-after.result
          c.args.self.now.agree.full c.requires.ground place c.index-before.ensures c.args.more c.stepped-after.ensures;
      same = λ e. refl;
    }
