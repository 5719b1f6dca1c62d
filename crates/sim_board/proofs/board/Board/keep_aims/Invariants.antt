-- Those that are made lead on to the rows as they are.
use Rattle.sim_board.{proofs.Common.drop, proofs.Common.◌≡◌, specs.Boards.LeadsOn}

abbrev pub invariant-loop-change : Rattle.sim_board.proofs.board.Board.keep_aims.Given.invariant-loop-change
invariant-loop-change g l =
    let s = l.fn.self.state in
    record {
      count : l.kept ≡ l.change-index;
      leads : LeadsOn l.fn.self.setup.now s (record s { rows = l.rows.items }) l.changes (drop l.change-index l.changes);
    }
