use Rattle.sim_grid.proofs.steps.note_about.Goals as goal
use Rattle.sim_grid.{proofs.{Beside.{noted-all, noted-first, noted-more, noted-past}, steps.note_about.Goals.{in-Some, in_default}}, specs.Grids.AreStepsBefore}
use Rattle.std.proofs.Common.{Global, subst, sym, Vec, ℕ, ◌+◌, ◌∙◌}

pub loop-which-init : goal.loop-which-init
loop-which-init c = noted-first c.args.cells.now c.args.about c.args.steps.now.items c.note.new.steps.items c.requires.apart c.note.ensures

pub loop-which-preserved : goal.loop-which-preserved
loop-which-preserved c =
    let g = c.args.cells.now in
    let n = c.loop-which.which in
    let old = c.loop-which.steps.items in
    let P : Vec ℕ Global → Type 0 = λ v. AreStepsBefore g c.args.about (n + 1) v.items in
    elim c.match-neighbour.branch [
      | in-Some w ↦ subst P (sym w.steps-is) (noted-more g c.args.about w.in-Some.beside n old w.note-in-Some.new.steps.items
          (sym c.neighbour.ensures ∙ w.in-Some.is) c.loop-which.invariant w.note-in-Some.ensures)
      | in_default w ↦ subst P (sym w.steps-is) (noted-past g c.args.about n old (sym c.neighbour.ensures ∙ w.in_default.is) c.loop-which.invariant)
    ]

pub returns : goal.returns
returns c = noted-all c.args.cells.now c.args.about c.loop-which.which c.loop-which.steps.items c.loop-which-test.false c.loop-which.invariant
