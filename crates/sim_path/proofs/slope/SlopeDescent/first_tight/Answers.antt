use Rattle.sim_path.proofs.slope.SlopeDescent.first_tight.Goals as goal
use Rattle.sim_path.proofs.Common.{arith, Cell, field_of_grid, IsTight, IsTightStep, true, ℕ, ◌≡◌}
use Rattle.sim_path.{proofs.AwaySteps.one-more, specs.Questions.marked_in, specs.Questions.slope_of}

pub loop-which-init : goal.loop-which-init
loop-which-init c = λ j p lt t tight. absurd (omega (arith, lt))

pub returns-in-Some : goal.returns-in-Some
returns-in-Some c = (
  c.loop-which.which,
  c.loop-which-test.true,
  c.slope_step.ensures.some c.in-Some.from c.in-Some.is,
  λ j p lt t tight.
      c.loop-which.invariant j p lt t tight,
)

pub loop-which-preserved : goal.loop-which-preserved
loop-which-preserved c =
    let question = c.args.question.now in
    let Dead : ℕ → Type 0 = λ j. (p : Cell) → IsTightStep (field_of_grid question.grid.now) question.start (slope_of c.args.self) c.args.at p j
    → IsTight (field_of_grid question.grid.now) question.start (slope_of c.args.self) p → marked_in c.args.dead.now p ≡ true in
    let all = one-more Dead c.loop-which.which (λ j lt p t tight. c.loop-which.invariant j p lt t tight) (c.slope_step.ensures.none c.in_default.is) in
    λ j p lt t tight. all j lt p t tight

pub returns : goal.returns
returns c = λ j p lt t tight. c.loop-which.invariant j p (omega (arith, lt, c.loop-which-test.false)) t tight

pub slope_step-requires : goal.slope_step-requires
slope_step-requires c = record {
  which_in = c.loop-which-test.true;
  stands = record { spot = record { on = c.requires.at_on; place_is = c.place-place.ensures }; moves = c.moves_from.ensures; cost_is = c.left.ensures };
  size = c.requires.floor_holds.size_is;
}
