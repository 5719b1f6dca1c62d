use Rattle.sim_path.proofs.live.mark_all.Goals as goal
use Rattle.sim_path.proofs.Common.{[], ap, Cell, Contains, Contains-append_left, Contains-push, field_of_grid, List, subst, sym, ◌++◌, ◌∙◌, ◌∷◌}
use Rattle.{sim_path.proofs.AwaySteps.live-first, sim_path.proofs.AwaySteps.live-more, sim_path.specs.Questions.AreLiveBut, sim_search.specs.Rows.number_in}

pub loop-init : goal.loop-init
loop-init c =
    let field = field_of_grid c.args.question.now.grid.now in
    let number = number_in c.args.distances.now in
    subst (λ (l : List Cell). AreLiveBut field c.args.question.now.start number c.set.new.self l)
    (sym (c.in_ok-push.ensures.items ∙ ap (λ (l : List Cell). l ++ c.args.question.now.start ∷ []) c.clear.ensures.items))
    (live-first field c.args.question.now.start number c.args.live.now c.set.new.self c.requires.none c.set.ensures c.args.question.now.start_on)

pub mark_from-requires-clause-cell : goal.mark_from-requires-clause-cell
mark_from-requires-clause-cell c =
    let at = c.in-Some.at in
    let rest = c.pop.new.self.items in
    record {
      cell_on = c.loop.invariant.on at (subst (λ (l : List Cell). Contains l at) (sym c.in-Some.ensures.items) (Contains-push rest at));
      size = c.requires.size;
    }

pub mark_from-requires-clause-on : goal.mark_from-requires-clause-on
mark_from-requires-clause-on c =
    let at = c.in-Some.at in
    let rest = c.pop.new.self.items in
    λ v h. c.loop.invariant.on v (subst (λ (l : List Cell). Contains l v) (sym c.in-Some.ensures.items) (Contains-append_left rest (at ∷ []) v h))

pub loop-preserved : goal.loop-preserved
loop-preserved c =
    let question = c.args.question.now in
    let field = field_of_grid question.grid.now in
    let number = number_in c.args.distances.now in
    let at = c.in-Some.at in
    let rest = c.pop.new.self.items in
    live-more field question.start number c.loop.live c.mark_from.new.live rest c.mark_from.new.list.items at
    (subst (λ (l : List Cell). AreLiveBut field question.start number c.loop.live l) c.in-Some.ensures.items c.loop.invariant) c.in_ok-mark_from.ensures
