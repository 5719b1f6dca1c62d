-- The end is the best of the ends, or where none of them has a cost, the best of all cells that have one.
use Rattle.sim_path.proofs.answer.Searcher.finish.Goals as goal
use Rattle.sim_path.proofs.Common.{Cell, HasGoneTo, IfOk-from_err, IsBestOf, IsWayEnd, Option, Reached, Some, cost_in, field_of_grid, subst, sym, ◌≡◌}
use Rattle.sim_path.proofs.answer.Searcher.finish.Goals.{in-None, in-Some}
use Rattle.sim_path.proofs.{Ends.all-end, Ends.back-of_all, Ends.start-costs, TightTrails.all-by_none, TightTrails.end-by_search}

pub end_of-end-requires : goal.end_of-end-requires
end_of-end-requires g c =
    let question = c.args.question.now in
    let field = field_of_grid question.grid.now in
    let cost = cost_in c.in_ok-stage.stage.search.costs in
    let none = subst (λ (o : Option Reached). IsBestOf cost question.goal question.ends.now o) c.in-None.is c.best_of.ensures in
    let all = all-by_none field c.args.stage.search.start (g.A.Guide.estimate_of c.args.guide) question.ends.now cost none c.in_ok-stage.ensures.costs in
    record { start = subst (λ (v : Cell). cost v ≡ Some 0) c.requires.from (start-costs field c.args.stage.search.start cost all) }

pub trail_from-found-requires : goal.trail_from-found-requires
trail_from-found-requires g c =
    let question = c.args.question.now in
    let field = field_of_grid question.grid.now in
    let start = question.start in
    let costs = c.in_ok-stage.stage.search.costs in
    let cost = cost_in costs in
    let gone = subst (λ (v : Cell). HasGoneTo field v question.goal question.near question.ends.now cost) c.requires.from
    (record {
      estimate = g.A.Guide.estimate_of c.args.guide;
      falls = c.requires.ready.guide.falls;
      none_left = c.requires.none_left;
      searched = c.in_ok-stage.ensures.costs;
    }) in
    elim c.match-best_of.branch [
      | in-Some w ↦
          let best = subst (λ (o : Option Reached). IsBestOf cost question.goal question.ends.now o) w.in-Some.is c.best_of.ensures in
          subst (λ (e : Reached). IsWayEnd field start question.goal cost e) (sym w.end-is)
          (end-by_search field start question.goal question.near question.ends.now cost w.in-Some.end c.requires.ends best gone)
      | in-None w ↦
          let none = subst (λ (o : Option Reached). IsBestOf cost question.goal question.ends.now o) w.in-None.is c.best_of.ensures in
          let all = all-by_none field start gone.estimate question.ends.now cost none gone.searched in
          let end = w.end_of-end.result in
          subst (λ (e : Reached). IsWayEnd field start question.goal cost e) (sym w.end-is)
          (record {
            is_end = all-end field start question.goal costs end question.start_on c.in_ok-stage.ensures.ready.size_is all w.end_of-end.ensures;
            back = back-of_all field start cost end all w.end_of-end.ensures.reached;
          })
    ]

pub returns-in_err-stage : goal.returns-in_err-stage
returns-in_err-stage g c = IfOk-from_err _ _ c.from_residual.ensures.0
