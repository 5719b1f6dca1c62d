use Rattle.sim_path.proofs.live.first_live.Goals as goal
use Rattle.sim_path.{proofs.{AwaySteps.one-more, Common.{arith, Cell, field_of_grid, IsTightStep, true, ℕ, ◌≡◌}}, specs.Questions.{is_dead, slope_of}}

pub loop-which-init : goal.loop-which-init
loop-which-init c = λ j p lt t. absurd (omega (arith, lt))

pub returns-in-Some : goal.returns-in-Some
returns-in-Some c = (
  c.loop-which.which,
  c.loop-which-test.true,
  c.live_step.ensures.some c.in-Some.from c.in-Some.is,
  λ j p lt t tight.
      c.loop-which.invariant j p lt t,
)

pub loop-which-preserved : goal.loop-which-preserved
loop-which-preserved c =
    let question = c.args.question.now in
    let Dead : ℕ → Type 0 = λ j. (p : Cell) → IsTightStep (field_of_grid question.grid.now) question.start (slope_of c.args.slope.now) c.args.cell p j
    → is_dead c.args.live.now p ≡ true in
    let all = one-more Dead c.loop-which.which (λ j lt p t. c.loop-which.invariant j p lt t) (c.live_step.ensures.none c.in_default.is) in
    λ j p lt t. all j lt p t

pub returns : goal.returns
returns c = λ j p lt t tight. c.loop-which.invariant j p (omega (arith, lt, c.loop-which-test.false)) t

pub live_step-requires : goal.live_step-requires
live_step-requires c = record {
  which_in = c.loop-which-test.true;
  stands = record { spot = record { on = c.requires.cell_on; place_is = c.place-place.ensures }; moves = c.moves_from.ensures; cost_is = c.left.ensures };
  size = c.requires.size;
}
