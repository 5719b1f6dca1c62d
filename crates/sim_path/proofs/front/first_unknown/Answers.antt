use Rattle.sim_path.proofs.AwaySteps.{away-by_bit, bit-by_away, near-unknown, one-more, unknown-near}
use Rattle.sim_path.proofs.Common.{◌≡◌, ℕ, true, arith, bit_at, Cell, field_of_grid, floor_of, IsTightStep, marked_in, shr_and_one, sym, ◌∙◌}
use Rattle.sim_path.proofs.front.first_unknown.Goals.{else-away-which-eq1, then-away-which-eq1+in_default}
use Rattle.sim_path.proofs.front.first_unknown.Goals as goal

pub returns-in-Some : goal.returns-in-Some
returns-in-Some c =
    let field = field_of_grid c.args.question.now.grid.now in
    let start = c.args.question.now.start in
    let front = c.args.front.now in
    let at = c.args.at in
    let which = c.loop-which.which in
    let from = c.in-Some.from in
    let near = c.near_step.ensures.some from c.in-Some.is in
    let set : bit_at c.away_from-away.result which ≡ 1 = sym (shr_and_one c.away_from-away.result which) ∙ c.if-away-which-eq1.true in
    let away = away-by_bit at.cell front.aim.goal c.away_from-away.result which c.loop-which-test.true c.away_from-away.ensures set in (
      which,
      c.loop-which-test.true,
      near-unknown field start front c.requires.known.floor_holds at.cell c.requires.known.at_on c.requires.known.free c.requires.unknown from which
          near.leads away (omega (arith, near.far, c.requires.cost)),
      λ j p lt t tight. c.loop-which.invariant j p lt t,
    )

pub loop-which-preserved : goal.loop-which-preserved
loop-which-preserved c =
    let field = field_of_grid c.args.question.now.grid.now in
    let start = c.args.question.now.start in
    let front = c.args.front.now in
    let at = c.args.at in
    let which = c.loop-which.which in
    let mask = c.away_from-away.result in
    let Dead : ℕ → Type 0 = λ j. (p : Cell) → IsTightStep field start (floor_of front start) at.cell p j → marked_in c.args.dead.now p ≡ true in
    let all = one-more Dead which (λ j lt p t. c.loop-which.invariant j p lt t)
    (elim c.if-away-which-eq1.branch [
      | then-away-which-eq1+in_default w ↦
          λ p t.
          let (away, near) = unknown-near field start front c.requires.known.floor_holds at.cell c.requires.known.at_on c.requires.known.free
          c.requires.unknown p which t in
          w.near_step.ensures.none w.in_default.is p (record { leads = t.leads; far = omega (arith, near, c.requires.cost) })
      | else-away-which-eq1 w ↦
          λ p t.
          let (away, near) = unknown-near field start front c.requires.known.floor_holds at.cell c.requires.known.at_on c.requires.known.free
          c.requires.unknown p which t in
          absurd (w.if-away-which-eq1.false (shr_and_one mask which ∙ bit-by_away at.cell front.aim.goal mask which c.loop-which-test.true
          c.away_from-away.ensures away))
    ]) in
    λ j p lt t. all j lt p t

pub returns : goal.returns
returns c = λ j p lt t tight. c.loop-which.invariant j p (omega (arith, lt, c.loop-which-test.false)) t
