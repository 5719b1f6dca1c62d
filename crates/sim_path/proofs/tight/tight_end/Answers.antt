use Rattle.sim_path.proofs.tight.tight_end.Goals as goal
use Rattle.sim_path.proofs.Common.{[], ap, Cell, floor_cost, get_or, IsBestOf, List, Reached, Some, subst, sym, take, take_all, take_more, ◌++◌, ◌+◌, ◌∷◌, ◌≡◌}
use Rattle.sim_path.proofs.TightTrails.{best_of-more, best_of-none}

pub loop-cell-init : goal.loop-cell-init
loop-cell-init g c = best_of-none (floor_cost (g.F.Floor.floor_of c.args.floor c.args.question.now.start)) c.args.question.now.goal

pub loop-cell-preserved : goal.loop-cell-preserved
loop-cell-preserved g c =
    let cost = floor_cost (g.F.Floor.floor_of c.args.floor c.args.question.now.start) in
    let xs = c.args.question.now.ends.now in
    let i = c.loop-cell.cell-index in
    let x : Cell = get_or xs i (record { x = 0; z = 0 }) in
    let more : take (i + 1) xs ≡ take i xs ++ x ∷ [] = take_more xs i (record { x = 0; z = 0 }) c.loop-cell-test.true in
    let is : cost x ≡ Some c.floor-cost.result = ap Some (sym c.floor-cost.ensures) in
    let this : Reached = record { cell = x; cost = c.floor-cost.result } in
    subst (λ (l : List Cell). IsBestOf cost c.args.question.now.goal l (Some c.better_than.result)) (sym more)
    (subst (λ (r : Reached). IsBestOf cost c.args.question.now.goal (take i xs ++ x ∷ []) (Some r)) (sym c.better_than.ensures)
    (best_of-more cost c.args.question.now.goal (take i xs) x c.floor-cost.result c.loop-cell.best is c.loop-cell.invariant))

pub returns : goal.returns
returns g c =
    let question = c.args.question.now in
    subst (λ (l : List Cell). IsBestOf (floor_cost (g.F.Floor.floor_of c.args.floor question.start)) question.goal l c.loop-cell.best)
    (take_all c.loop-cell.cell-index question.ends.now c.loop-cell-test.false) c.loop-cell.invariant
