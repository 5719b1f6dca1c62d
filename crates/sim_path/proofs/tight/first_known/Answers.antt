use Rattle.sim_path.proofs.{AwaySteps.one-more, Common.{arith, Cell, field_of_grid, IsTightStep, marked_in, true, ℕ, ◌≡◌}}
use Rattle.sim_path.proofs.tight.first_known.Goals as goal

pub loop-which-init : goal.loop-which-init
loop-which-init g c = λ j p lt t. absurd (omega (arith, lt))

pub returns-in-Some : goal.returns-in-Some
returns-in-Some g c = (
  c.loop-which.which,
  c.loop-which-test.true,
  c.tight_step.ensures.some c.in-Some.from c.in-Some.is,
  λ j p lt t tight.
      c.loop-which.invariant j p lt t,
)

pub loop-which-preserved : goal.loop-which-preserved
loop-which-preserved g c =
    let question = c.args.question.now in
    let Dead : ℕ → Type 0 = λ j. (p : Cell) → IsTightStep (field_of_grid question.grid.now) question.start (g.F.Floor.floor_of c.args.floor question.start)
    c.args.at.cell p
    j → marked_in c.args.dead.now p ≡ true in
    let all = one-more Dead c.loop-which.which (λ j lt p t. c.loop-which.invariant j p lt t) (c.tight_step.ensures.none c.in_default.is) in
    λ j p lt t. all j lt p t

pub returns : goal.returns
returns g c = λ j p lt t tight. c.loop-which.invariant j p (omega (arith, lt, c.loop-which-test.false)) t
