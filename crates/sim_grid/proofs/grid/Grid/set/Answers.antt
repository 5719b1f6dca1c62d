use Rattle.sim_grid.proofs.grid.Grid.set.Goals as goal
use Rattle.{sim_base.specs.Places.IsOnGround, sim_grid.{proofs.Beside.steps-apart, specs.{Grids.{AreStepsApart, IsGrid, OpenCells}, Packed.ArePacked}}}
use Rattle.std.proofs.Common.{ap, arith, Bool, length, List, set, subst, sym, ℕ, ◌*◌, ◌<◌, ◌∙◌}

pub note_about-requires-clause-apart : goal.note_about-requires-clause-apart
note_about-requires-clause-apart c =
    let inside = c.self.inside in
    let old = inside.cells in
    let changed = c.set.ensures ∙ ap (λ (n : ℕ). record old { cells = set old.cells n c.args.free }) c.place-place.ensures.place in
    subst (λ (g : OpenCells). AreStepsApart g c.args.cell inside.steps.items) (sym changed)
    (steps-apart old c.args.cell c.args.free (subst (λ (g : OpenCells). IsOnGround g.size c.args.cell) (sym c.self.view_is) c.requires)
    inside.steps.items c.self.invariant.0)

-- a place of the ground is one of the cells
within : (g : OpenCells) (place : ℕ) → IsGrid g → place < g.size.width * g.size.depth → place < length g.cells
within g place grid lt = omega (arith, lt, grid.full)

pub note_word-requires : goal.note_word-requires
note_word-requires c =
    let lt = within c.self.inside.cells c.place-place.result c.place-place.ensures.grid c.place-place.ensures.below in
    omega (arith, lt, c.self.invariant.1.full, c.self.inside.words.ok.0)

pub invariant_of-self : goal.invariant_of-self
invariant_of-self c =
    let old = c.self.inside.cells in
    let lt = within old c.place-place.result c.place-place.ensures.grid c.place-place.ensures.below in (
      c.note_about.ensures,
      subst (λ (l : List Bool). ArePacked l c.note_word.new.words.items) (sym (ap (λ (g : OpenCells). g.cells) c.set.ensures))
          (c.note_word.ensures old.cells c.self.invariant.1 lt),
    )
