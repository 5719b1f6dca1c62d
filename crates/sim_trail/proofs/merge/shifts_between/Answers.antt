-- Each round tells the changes of the next id. There are no more where neither list has a mark left.
use Rattle.{sim_trail.proofs.Merging.{begins, ends, fewer_left, goes_on}, std.proofs.Common.sym}
use Rattle.sim_trail.proofs.merge.shifts_between.Goals as goal

pub ids-init : goal.ids-init
ids-init c = rw c.new-shifts.ensures (begins c.args.olds.now c.args.news.now c.requires.olds c.requires.news)

pub ids-smaller : goal.ids-smaller
ids-smaller c = rw (c.behind-olds.ensures, c.behind-news.ensures) (fewer_left c.in-Some.id c.ids.olds.now c.ids.news.now (sym c.in-Some.ensures))

pub ids-preserved : goal.ids-preserved
ids-preserved c =
    rw (c.behind-olds.ensures, c.behind-news.ensures, c.in_ok-push_change.ensures, c.first_of.ensures, c.first_of-in-Some.ensures)
    (goes_on _ c.in-Some.id c.args.olds.now c.args.news.now c.ids.olds.now c.ids.news.now c.ids.shifts (sym c.in-Some.ensures) c.ids.invariant)

pub returns : goal.returns
returns c = ends c.args.olds.now c.args.news.now c.ids.olds.now c.ids.news.now c.ids.shifts (sym c.in_default.ensures) c.ids.invariant
