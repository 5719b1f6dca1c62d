use Rattle.sim_search.proofs.Common.{AreMoves, Cell, field_of_grid, IfOk-from_err, Search, subst, sym, ◌+◌, ◌∙◌}
use Rattle.sim_search.proofs.drain.expand.Goals.{else-start_open, in-Some+in_ok-lower, in_default, then-start_open}
use Rattle.sim_search.proofs.{Draining.{expanded, Expanding, expanding_begins, expanding_more, expanding_none}, Moves.open-moves}
use Rattle.sim_search.proofs.drain.expand.Goals as goal

pub loop-which-init : goal.loop-which-init
loop-which-init g c =
    expanding_begins (g.A.Guide.estimate_of c.args.aim) (field_of_grid c.args.grid.now) c.args.search.now c.args.from c.args.cost c.requires.label

pub loop-which-preserved : goal.loop-which-preserved
loop-which-preserved g c =
    let field = field_of_grid c.args.grid.now in
    let P : Search → Type 0 = λ s. Expanding (g.A.Guide.estimate_of c.args.aim) field c.args.search.now s c.args.from c.args.cost (c.loop-which.which + 1) in
    elim c.match-step_beside.branch [
      | in-Some+in_ok-lower w ↦
          subst P (sym w.search-is)
          (expanding_more (g.A.Guide.estimate_of c.args.aim) field c.args.search.now c.loop-which.search w.lower.new.search c.args.from w.in-Some.to.cell c.args.cost
          c.loop-which.which c.loop-which.invariant
          (c.step_beside.ensures.some w.in-Some.to w.in-Some.is)
          (rw w.step_cost.ensures at w.in_ok-lower.ensures))
      | in_default w ↦ subst P (sym w.search-is)
          (expanding_none (g.A.Guide.estimate_of c.args.aim) field c.args.search.now c.loop-which.search c.args.from c.args.cost
          c.loop-which.which c.loop-which.invariant (c.step_beside.ensures.none w.in_default.is))
    ]

-- the steps that the grid keeps are those that are allowed from an open start
pub step_beside-requires-clause-moves : goal.step_beside-requires-clause-moves
step_beside-requires-clause-moves g c =
    let field = field_of_grid c.args.grid.now in
    let start = c.args.search.now.start in
    let moves : AreMoves field start c.args.from c.if-start_open.moves =
    elim c.if-start_open.branch [
      | then-start_open w ↦ subst (AreMoves field start c.args.from) (sym w.moves-is)
          (open-moves field start (sym c.requires.start_open ∙ w.if-start_open.true) c.args.from w.steps-moves.result w.steps-moves.ensures)
      | else-start_open w ↦ subst (AreMoves field start c.args.from) (sym w.moves-is) w.moves_by_trial-moves.ensures
    ] in
    subst (λ (v : Cell). AreMoves field v c.args.from c.if-start_open.moves) (sym c.loop-which.invariant.start_is) moves

pub returns : goal.returns
returns g c =
    expanded (g.A.Guide.estimate_of c.args.aim) (field_of_grid c.args.grid.now) c.args.search.now c.loop-which.search c.args.from c.args.cost c.loop-which.which
    c.loop-which-test.false c.loop-which.invariant

pub returns-in_err-lower : goal.returns-in_err-lower
returns-in_err-lower g c = IfOk-from_err _ _ c.from_residual.ensures.0

pub step_beside-requires-clause-from : goal.step_beside-requires-clause-from
step_beside-requires-clause-from g c = record { on = c.requires.from_on; place_is = c.place-place.ensures }
