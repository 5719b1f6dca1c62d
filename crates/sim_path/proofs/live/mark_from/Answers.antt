use Rattle.sim_path.proofs.live.mark_from.Goals as goal
use Rattle.sim_path.proofs.{AwaySteps.{spread-more, spread-past}, Common.{Cell, field_of_grid, IsOnGround, marked_in, Size, subst, sym, true, ◌≡◌}}
use Rattle.{sim_path.{proofs.live.mark_from.Goals.{in-Some+in_ok-mark, in_default}, specs.Questions.IsSpread}, sim_search.specs.Rows.number_in}

pub mark-requires-clause-on : goal.mark-requires-clause-on
mark-requires-clause-on c = λ v h. subst (λ (s : Size). IsOnGround s v) (sym c.loop-which.invariant.spread.size_is) (c.loop-which.invariant.spread.on v h)

pub loop-which-preserved : goal.loop-which-preserved
loop-which-preserved c =
    let field = field_of_grid c.args.question.now.grid.now in
    let start = c.args.question.now.start in
    let number = number_in c.args.distances.now in
    let old = c.args.live.now in
    let first = c.args.list.now.items in
    let live = c.loop-which.live in
    let list = c.loop-which.list.items in
    elim c.match-falling_step.branch [
      | in-Some+in_ok-mark w ↦
          let next = w.mark.new.live in
          let longer = w.mark.new.list.items in
          let spread = subst (λ (s : Size). IsSpread s live next list longer) c.loop-which.invariant.spread.size_is w.in_ok-mark.ensures.spread in
          rw (w.live-is, w.list-is) (spread-more field start number old live next first list longer c.loop-which.which c.args.cell c.loop-which.invariant spread
          (λ to f. subst (λ (v : Cell). marked_in next v ≡ true) (c.falling_step.ensures.only w.in-Some.to to w.in-Some.is f) w.in_ok-mark.ensures.here))
      | in_default w ↦
          rw (w.live-is, w.list-is) (spread-past field start number old live first list c.loop-which.which c.args.cell c.loop-which.invariant
          (c.falling_step.ensures.none w.in_default.is))
    ]

pub falling_step-requires : goal.falling_step-requires
falling_step-requires c = record {
  which_in = c.loop-which-test.true;
  stands = record {
    spot = record { on = c.requires.cell.cell_on; place_is = c.place-place.ensures };
    moves = c.moves_from.ensures;
    cost_is =
        c.estimate.ensures.is;
  };
  size = c.requires.cell.size;
}
