use Rattle.sim_path.proofs.{Common.{arith, Cell, field_of_grid, length, List, None, same_cell-true, subst, sym, take, ◌-◌, ◌<◌, ◌∙◌}, Remembering.at_right}
use Rattle.{sim_path.specs.{Atlases.ground_in, Questions.AreFirst}, std.proofs.{Common.drop, lemmas.List.get_or_read}}

pub returns-then-are_of : Rattle.sim_path.proofs.remembered.Remembered.trip.Goals.returns-then-are_of
returns-then-are_of c =
    let question = c.args.question.now in
    let s = c.args.self.now in
    let kept = c.in_ok-kept.kept in
    let places = s.places.items in
    let there : c.place_of.result < length places = omega (arith, c.place_of.ensures, s.full, s.places.ok.0) in
    subst (λ (v : List Cell). ∥ AreFirst (field_of_grid question.grid.now) question.start question.goal (take (kept.end - kept.begin) (drop kept.begin v))
    kept.whole ∥₁)
    (sym c.deref.ensures.value)
    (at_right (ground_in s.over) question.grid.now s.cells.items places c.place_of.result kept question.start question.goal s.right there
    (sym (get_or_read places _ _ there c.index.ensures None) ∙ c.in_ok-kept.was) (c.are_of.ensures c.if-are_of.true)
    (same_cell-true kept.from question.start (sym c.eq.ensures ∙ c.if-eq.true)) (same_cell-true kept.to question.goal (sym c.eq-then-eq.ensures ∙
    c.if-eq-2.true)))
