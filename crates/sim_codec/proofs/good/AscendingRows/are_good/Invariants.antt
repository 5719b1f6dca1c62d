-- All rows are good just where those that are left are.
use Rattle.sim_codec.proofs.Common.{◌↔◌, length, AreGood}

abbrev pub invariant-rows : Rattle.sim_codec.proofs.good.AscendingRows.are_good.Given.invariant-rows
invariant-rows l = AreGood l.setup l.self.all.now l.next l.rows ↔ AreGood l.setup l.self.all.now l.next l.self.all.now

abbrev pub decreases-rows : Rattle.sim_codec.proofs.good.AscendingRows.are_good.Given.decreases-rows
decreases-rows l = length l.rows
