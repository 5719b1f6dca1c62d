use Rattle.sim_path.proofs.Common.{Cell, cell_of, centre_of, IfOk-from_err, IsNarrow, map-append, Point, same_cell, sym, take_all, take_more, Way, waypoints}
use Rattle.sim_path.proofs.Common.{◌≡◌, ◌+◌, cond, List, [], ◌∷◌, ◌++◌, get_or, take, All-get_or, ap, ap₂, ◌∙◌}
use Rattle.sim_path.proofs.{Common.Bool, answer.way_through.Goals.else-eq, answer.way_through.Goals.then-eq}
use Rattle.sim_path.proofs.answer.way_through.Goals as goal

pub returns : goal.returns
returns c =
    let cells = c.args.trip.cells.now in
    let goal = c.args.goal.now in
    let all : take c.loop-cell.cell-index cells ≡ cells = take_all c.loop-cell.cell-index cells c.loop-cell-test.false in
    let points : c.from_items.result ≡ waypoints goal cells = c.from_items.ensures ∙ c.loop-cell.invariant ∙ ap (waypoints goal) all in
    ap (λ (p : List Point). let way : Way = record { points = p; whole = c.args.trip.whole } in way) points

pub loop-cell-preserved : goal.loop-cell-preserved
loop-cell-preserved c =
    let goal = c.args.goal.now in
    let cells = c.args.trip.cells.now in
    let i = c.loop-cell.cell-index in
    let cell : Cell = get_or cells i (record { x = 0; z = 0 }) in
    let point : Cell → Point = λ v. cond (same_cell v (cell_of goal)) goal (centre_of v) in
    let more : take (i + 1) cells ≡ take i cells ++ cell ∷ [] = take_more cells i (record { x = 0; z = 0 }) c.loop-cell-test.true in
    let same : same_cell cell (cell_of goal) ≡ c.eq.result = ap (same_cell cell) (sym c.cell_of-to.ensures) ∙ sym c.eq.ensures in
    let is : c.if-eq.point ≡ point cell = elim c.if-eq.branch [
      | then-eq w ↦ w.point-is ∙ sym (ap (λ (b : Bool). cond b goal (centre_of cell)) (same ∙ w.if-eq.true))
      | else-eq w ↦ w.point-is ∙ w.centre_of-point.ensures ∙ sym (ap (λ (b : Bool). cond b goal (centre_of cell)) (same ∙ w.if-eq.false))
    ] in
    c.in_ok-push.ensures.items ∙ ap₂ (λ (points : List Point) (last : Point). points ++ last ∷ []) c.loop-cell.invariant is ∙
    sym (ap (waypoints goal) more ∙ map-append point (take i cells) (cell ∷ []))

pub returns-in_err-points : goal.returns-in_err-points
returns-in_err-points c = IfOk-from_err _ _ c.from_residual.ensures.0

pub returns-in_err-push : goal.returns-in_err-push
returns-in_err-push c = IfOk-from_err _ _ c.from_residual-in_err-push.ensures.0

pub centre_of-point-requires-clause-x : goal.centre_of-point-requires-clause-x
centre_of-point-requires-clause-x c = (All-get_or IsNarrow c.args.trip.cells.now c.loop-cell.cell-index _ c.loop-cell-test.true c.requires.cells).east

pub centre_of-point-requires-clause-z : goal.centre_of-point-requires-clause-z
centre_of-point-requires-clause-z c = (All-get_or IsNarrow c.args.trip.cells.now c.loop-cell.cell-index _ c.loop-cell-test.true c.requires.cells).north

pub loop-cell-init : goal.loop-cell-init
loop-cell-init c = c.in_ok-points.ensures.items
