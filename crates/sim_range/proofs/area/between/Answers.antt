-- A point of a bucket that is in no row or no column of them is out of reach.
use Rattle.sim_range.proofs.{Common.Area, Nearing.apart_by}

pub returns-clause-from : Rattle.sim_range.proofs.area.between.Goals.returns-clause-from
returns-clause-from c =
    let area : Area = record { rows = c.span_of.result; columns = c.span_of-2.result } in
    λ k p beside placed key. apart_by k c.args.reach area p c.args.from.now beside placed key c.span_of.ensures.from c.span_of-2.ensures.from

pub returns-clause-to : Rattle.sim_range.proofs.area.between.Goals.returns-clause-to
returns-clause-to c =
    let area : Area = record { rows = c.span_of.result; columns = c.span_of-2.result } in
    λ k p beside placed key. apart_by k c.args.reach area p c.args.to.now beside placed key c.span_of.ensures.to c.span_of-2.ensures.to
