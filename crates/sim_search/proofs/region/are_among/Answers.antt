-- One cell more is found, or the answer is no.
use Rattle.{sim_search.proofs.{Added.gone_through, Common.Contains}, std.proofs.lemmas.List.Elements.{All-contains, All-more}}

pub loop-cell-preserved : Rattle.sim_search.proofs.region.are_among.Goals.loop-cell-preserved
loop-cell-preserved c = All-more (Contains c.args.all.now) c.args.cells.now c.loop-cell.cell-index (record { x = 0; z = 0 }) c.loop-cell-test.true
    c.loop-cell.invariant (c.is_among.ensures c.if-not-is_among.false)

pub returns : Rattle.sim_search.proofs.region.are_among.Goals.returns
returns c = λ _ e h. All-contains (Contains c.args.all.now) c.args.cells.now e
    (gone_through (Contains c.args.all.now) c.args.cells.now c.loop-cell.cell-index c.loop-cell-test.false c.loop-cell.invariant) h
