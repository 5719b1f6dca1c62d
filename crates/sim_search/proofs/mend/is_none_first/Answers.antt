-- One cell more is not the first of its region, or the answer is no.
use Rattle.{sim_search.{proofs.Added.gone_through, specs.Floods.{IsNotFirst, label_in}}, std.proofs.lemmas.List.Elements.All-more}

pub loop-cell-preserved : Rattle.sim_search.proofs.mend.is_none_first.Goals.loop-cell-preserved
loop-cell-preserved c = All-more (IsNotFirst c.args.grid.now.size (label_in c.args.labels.now)) c.args.cells.now c.loop-cell.cell-index
    (record { x = 0; z = 0 }) c.loop-cell-test.true c.loop-cell.invariant (c.is_first.ensures c.if-is_first.false)

pub returns : Rattle.sim_search.proofs.mend.is_none_first.Goals.returns
returns c = λ _. gone_through (IsNotFirst c.args.grid.now.size (label_in c.args.labels.now)) c.args.cells.now c.loop-cell.cell-index c.loop-cell-test.false
    c.loop-cell.invariant
