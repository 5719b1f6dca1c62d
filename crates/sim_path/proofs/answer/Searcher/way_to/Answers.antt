-- The trail is that of the straight way, or of a search.
use Rattle.sim_path.proofs.answer.Searcher.way_to.Goals.{else-may_be_straight, else-not-straight, then-may_be_straight+in_ok-straight}
use Rattle.sim_path.proofs.{Common.field_of_grid, Common.sym, Common.true≢false, Common.◌∙◌, Ends.first-of}
use Rattle.sim_path.{proofs.answer.Searcher.way_to.Goals.then-not-straight+in_ok-search, specs.Questions.IsItsTrail}

pub remember-requires : Rattle.sim_path.proofs.answer.Searcher.way_to.Goals.remember-requires
remember-requires c =
    let question = c.args.question.now in
    let trail : IsItsTrail question c.if-not-straight.trail.items = elim c.if-not-straight.branch [
      | then-not-straight+in_ok-search w ↦ rw w.trail-is w.in_ok-search.ensures
      | else-not-straight w ↦ rw w.trail-is (elim c.if-may_be_straight.branch [
        | then-may_be_straight+in_ok-straight v ↦ rw v.trail-is (v.in_ok-straight.ensures (sym v.straight-is ∙ w.if-not-straight.false))
        | else-may_be_straight v ↦ absurd (true≢false (sym w.if-not-straight.false ∙ v.straight-is ∙ v.if-may_be_straight.false))
      ])
    ] in
    ∣ first-of (field_of_grid question.grid.now) question.start question.goal c.if-not-straight.trail.items c.as_slice.result.now
    c.trip_of-trip.result.cells.now c.trip_of-trip.result.whole trail (c.as_slice.ensures.value ∙ c.turn.ensures) c.trip_of-trip.ensures.cells
    c.trip_of-trip.ensures.whole ∣₁

pub way_by-way-requires-clause-first : Rattle.sim_path.proofs.answer.Searcher.way_to.Goals.way_by-way-requires-clause-first
way_by-way-requires-clause-first c =
    let question = c.args.question.now in
    let trail : IsItsTrail question c.if-not-straight.trail.items = elim c.if-not-straight.branch [
      | then-not-straight+in_ok-search w ↦ rw w.trail-is w.in_ok-search.ensures
      | else-not-straight w ↦ rw w.trail-is (elim c.if-may_be_straight.branch [
        | then-may_be_straight+in_ok-straight v ↦ rw v.trail-is (v.in_ok-straight.ensures (sym v.straight-is ∙ w.if-not-straight.false))
        | else-may_be_straight v ↦ absurd (true≢false (sym w.if-not-straight.false ∙ v.straight-is ∙ v.if-may_be_straight.false))
      ])
    ] in
    ∣ first-of (field_of_grid question.grid.now) question.start question.goal c.if-not-straight.trail.items c.as_slice.result.now
    c.trip_of-trip.result.cells.now c.trip_of-trip.result.whole trail (c.as_slice.ensures.value ∙ c.turn.ensures) c.trip_of-trip.ensures.cells
    c.trip_of-trip.ensures.whole ∣₁
