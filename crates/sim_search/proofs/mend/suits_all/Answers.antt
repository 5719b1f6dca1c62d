-- The label suits one cell more, or the answer is no.
use Rattle.{sim_search.proofs.Added.gone_through, sim_search.specs.Floods.Suits, std.proofs.lemmas.List.Elements.All-more}

pub loop-cell-preserved : Rattle.sim_search.proofs.mend.suits_all.Goals.loop-cell-preserved
loop-cell-preserved c = All-more (Suits c.args.labels.now c.args.grid.now.size c.args.label) c.args.cells.now c.loop-cell.cell-index
    (record { x = 0; z = 0 }) c.loop-cell-test.true c.loop-cell.invariant (c.suits.ensures c.if-not-suits.false)

pub returns : Rattle.sim_search.proofs.mend.suits_all.Goals.returns
returns c = λ _. gone_through (Suits c.args.labels.now c.args.grid.now.size c.args.label) c.args.cells.now c.loop-cell.cell-index c.loop-cell-test.false
    c.loop-cell.invariant
