-- The stocks after the deeds so far, which are no more.
use Rattle.sim_stock.proofs.Common.{◌≡◌, ◌≤◌, take, dealt, total}

abbrev pub invariant-loop-dated : Rattle.sim_stock.proofs.dealing.deal.Given.invariant-loop-dated
invariant-loop-dated g l = record {
  stocks_are : l.stocks ≡ dealt l.fn.stocks (take l.dated-index l.deeds);
  total_is : total l.stocks ≤ total l.fn.stocks;
}
