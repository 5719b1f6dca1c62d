-- By distances the way is read off. Landmarks guide the search, and tell of no cost from the goal to itself.
use Rattle.sim_path.proofs.answer.Searcher.search_by.Goals as goal
use Rattle.{sim_grid.specs.Grids.{is_open_at, OpenCells}, sim_path.proofs.Common.{Aim, ap, ap₂, arith, Cell, estimate_to, field_of_grid, List, max, octile}}
use Rattle.sim_path.proofs.{Common.{octile-none, Option, subst, sym, true, ℕ, ◌*◌, ◌-◌, ◌/◌, ◌∙◌, ◌≡◌}, TightTrails.goal-end}
use Rattle.sim_path.specs.{Atlases.ground_in, declared.slope.Slope.Slope, Questions.{IsSlope, slope_of}, SlopeLaws.slope-floor}
use Rattle.sim_search.{proofs.Guiding.{between-self, landmarks-guide}, specs.declared.{distances.Distances.Distances, landmarks.Landmarks.Landmarks}}
use Rattle.sim_search.specs.Rows.{AreDistances, AreLandmarks, between, number_in, row_in, size_about}

-- by distances that are kept of a ground a slope is one on it
is_slope : (kept ground : OpenCells) (start goal : Cell) (distances : Distances) (slope : Slope) → kept ≡ ground → is_open_at ground start ≡ true
    → size_about distances ≡ kept.size → AreDistances (field_of_grid kept) goal (number_in distances) → slope.distances.now ≡ distances
    → slope.whole ≡ 2 * number_in distances start → IsSlope (field_of_grid ground) start slope
is_slope kept ground start goal distances slope same free size are made whole = record {
  goal = goal;
  size_is = ap size_about made ∙ size ∙ ap (λ (g : OpenCells). g.size) same;
  is_open = free;
  distances = subst (λ (d : Distances). AreDistances (field_of_grid ground) goal (number_in d)) (sym made)
      (subst (λ (g : OpenCells). AreDistances (field_of_grid g) goal (number_in distances)) same are);
  whole = whole ∙ ap (λ (d : Distances). 2 * number_in d start) (sym made);
}

pub go_back-requires : goal.go_back-requires
go_back-requires c =
    let question = c.args.question.now in
    record {
      floor_holds = is_slope (ground_in c.args.atlas.now.cells) question.grid.now question.start question.goal c.in-Some.distances.now c.of-slope.result
          c.requires.atlas c.requires.to_goal.is_open c.in-Some.ensures.size c.in-Some.ensures.distances c.of-slope.ensures.distances c.of-slope.ensures.whole;
      ends = c.requires.to_goal.ends;
    }

pub live_to-found-requires-clause-slope : goal.live_to-found-requires-clause-slope
live_to-found-requires-clause-slope c =
    let question = c.args.question.now in
    is_slope (ground_in c.args.atlas.now.cells) question.grid.now question.start question.goal c.in-Some.distances.now c.of-slope.result c.requires.atlas
    c.requires.to_goal.is_open c.in-Some.ensures.size c.in-Some.ensures.distances c.of-slope.ensures.distances c.of-slope.ensures.whole

none-left : (v goal : Cell) (near : ℕ) → octile v goal ≡ near → (octile v goal - near) / 2 * 2 ≡ 0
none-left v goal near e = omega (arith, e)

pub started-requires-clause-guide : goal.started-requires-clause-guide
started-requires-clause-guide c =
    let question = c.args.question.now in
    let field = field_of_grid question.grid.now in
    let guide = c.of-guide.result in
    landmarks-guide field (row_in guide.landmarks.now) guide.aim guide.row question.start question.start_on c.requires.to_goal.is_open
    (subst (λ (l : Landmarks). AreLandmarks field (row_in l)) (sym c.of-guide.ensures.landmarks)
    (subst (λ (g : OpenCells). AreLandmarks (field_of_grid g) (row_in c.in-Some-landmarks.landmarks)) c.requires.atlas
    (c.args.atlas.now.right c.in-Some-landmarks.landmarks c.in-Some-landmarks.is)))

pub finish-requires-clause-none_left : goal.finish-requires-clause-none_left
finish-requires-clause-none_left c = λ v e.
    let question = c.args.question.now in
    let to = question.goal in
    let aim : Aim = record { goal = to; near = question.near } in
    let row = row_in c.in-Some-landmarks.landmarks in
    let guide = c.of-guide.result in
    let there : octile v to ≡ 0 = e ∙ c.requires.to_goal.nearest in
    let own : between (row v) (row to) ≡ 0 = ap (λ (x : Cell). between (row x) (row to)) (octile-none v to there) ∙ between-self (row to) in
    let none : max (estimate_to aim v) (between (row v) (row to)) ≡ 0 = ap₂ max (none-left v to question.near e) own in
    subst (λ (a : Aim). max (estimate_to a v) (between (row_in guide.landmarks.now v) guide.row) ≡ 0) (sym c.of-guide.ensures.aim)
    (subst (λ (l : Landmarks). max (estimate_to aim v) (between (row_in l v) guide.row) ≡ 0) (sym c.of-guide.ensures.landmarks)
    (subst (λ (r : Option (List ℕ)). max (estimate_to aim v) (between (row v) r) ≡ 0) (sym c.of-guide.ensures.row) none))

pub finish-requires-clause-from : goal.finish-requires-clause-from
finish-requires-clause-from c = c.in_ok-stage.ensures.start

pub returns-then-branch-2 : goal.returns-then-branch-2
returns-then-branch-2 c =
    let question = c.args.question.now in
    let field = field_of_grid question.grid.now in
    let slope = c.of-slope.result in
    let is = is_slope (ground_in c.args.atlas.now.cells) question.grid.now question.start question.goal c.in-Some.distances.now slope c.requires.atlas
    c.requires.to_goal.is_open c.in-Some.ensures.size c.in-Some.ensures.distances c.of-slope.ensures.distances c.of-slope.ensures.whole in
    let found = c.in_ok-found.ensures c.if-branch-2.true in
    record {
      end = record { cell = question.goal; cost = slope_of slope question.goal };
      is_end = goal-end field question.start question.goal (slope_of slope) question.start_on (slope-floor field question.start slope is) found.tight;
      is_trail = found.is_trail;
    }
