-- Those of a turn stand between those before it and those behind it.
use Rattle.sim_turn.proofs.{Common.map, Common.ap, Common.sym, Common.Timed, Stretches.due_is, Stretches.in_order}
use Rattle.sim_turn.proofs.due.due_at.Goals as goal

pub slice_bounds-result-count : goal.slice_bounds-result-count
slice_bounds-result-count c =
    in_order c.args.timeds.now c.args.turn c.begin_of-first.result c.begin_of-end.result c.begin_of-end.ensures.within c.begin_of-first.ensures.point
    c.begin_of-end.ensures.point
    c.begin_of-first.ensures.within

pub slice_bounds-result-start : goal.slice_bounds-result-start
slice_bounds-result-start c =
    in_order c.args.timeds.now c.args.turn c.begin_of-first.result c.begin_of-end.result c.begin_of-end.ensures.within c.begin_of-first.ensures.point
    c.begin_of-end.ensures.point
    c.begin_of-first.ensures.within

pub returns : goal.returns
returns c =
    let timeds = c.args.timeds.now in
    let t = c.args.turn in
    let first = c.begin_of-first.result in
    let end = c.begin_of-end.result in
    let le = in_order timeds t first end c.begin_of-end.ensures.within c.begin_of-first.ensures.point c.begin_of-end.ensures.point
    c.begin_of-first.ensures.within in
    sym (ap (map (λ (timed : Timed). timed.order)) (due_is timeds t first end c.begin_of-end.ensures.within c.begin_of-first.ensures.point
    c.begin_of-end.ensures.point le))
