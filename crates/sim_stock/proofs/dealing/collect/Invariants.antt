-- The stocks with the income of the rows so far.
use Rattle.sim_stock.proofs.Common.{◌≡◌, ◌+◌, ◌*◌, ◌≤◌, take, collected, total}

abbrev pub invariant-loop-row : Rattle.sim_stock.proofs.dealing.collect.Given.invariant-loop-row
invariant-loop-row l = record {
  stocks_are : l.stocks ≡ collected l.income l.fn.stocks (take l.row-index l.rows);
  total_is : total l.stocks ≤ total l.fn.stocks + 2000 * l.row-index;
}
