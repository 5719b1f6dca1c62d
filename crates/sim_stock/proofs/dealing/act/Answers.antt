-- A deed is asked of its handler on stocks that are small enough, and makes them no more.
use Rattle.sim_stock.proofs.{Balances.asked_for, Balances.deed_total, Common.◌≤◌, Common.Stocks, Common.subst, Common.sym, Common.total}

pub after-requires : Rattle.sim_stock.proofs.dealing.act.Goals.after-requires
after-requires g c = asked_for c.args.stocks.now c.args.dated.now c.requires.dated c.requires.total

pub returns : Rattle.sim_stock.proofs.dealing.act.Goals.returns
returns g c = record {
  stocks = c.after.ensures;
  total = subst (λ (q : Stocks). total q ≤ total c.args.stocks.now) (sym c.after.ensures)
      (deed_total c.args.stocks.now c.args.dated.now.player c.args.dated.now.deed);
}
