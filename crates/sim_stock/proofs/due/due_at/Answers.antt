-- Those of a turn stand between those before it and those behind it.
use Rattle.sim_stock.proofs.{Common.DatedDeed, Common.sym, Common.Tribute, Stretches.in_order, Stretches.run_is}
use Rattle.sim_stock.proofs.due.due_at.Goals as goal

-- stands where there is none
no_deed : DatedDeed
no_deed = record { turn = 0; player = 0; deed = Tribute 0 0 0 }

pub slice_bounds-result-count : goal.slice_bounds-result-count
slice_bounds-result-count c =
    in_order (λ (dated : DatedDeed). dated.turn) c.args.deeds.now c.args.turn c.begin_of-first.result c.begin_of-end.result no_deed
    c.begin_of-end.ensures.within c.begin_of-first.ensures.point
    c.begin_of-end.ensures.point c.begin_of-first.ensures.within

pub slice_bounds-result-start : goal.slice_bounds-result-start
slice_bounds-result-start c =
    in_order (λ (dated : DatedDeed). dated.turn) c.args.deeds.now c.args.turn c.begin_of-first.result c.begin_of-end.result no_deed
    c.begin_of-end.ensures.within c.begin_of-first.ensures.point
    c.begin_of-end.ensures.point c.begin_of-first.ensures.within

pub returns : goal.returns
returns c =
    let deeds = c.args.deeds.now in
    let t = c.args.turn in
    let first = c.begin_of-first.result in
    let end = c.begin_of-end.result in
    let le = in_order (λ (dated : DatedDeed). dated.turn) deeds t first end no_deed c.begin_of-end.ensures.within c.begin_of-first.ensures.point
    c.begin_of-end.ensures.point c.begin_of-first.ensures.within in
    sym (run_is (λ (dated : DatedDeed). dated.turn) deeds t first end no_deed c.begin_of-end.ensures.within c.begin_of-first.ensures.point
    c.begin_of-end.ensures.point le)
