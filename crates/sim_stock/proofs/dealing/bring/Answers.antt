-- An income is small.
use Rattle.sim_stock.proofs.{Balances.earned_total, Balances.rate_at_limits, Common.IsRate, Common.ap, Common.arith, Common.subst, Common.sym, Common.total}

pub returns-clause-total : Rattle.sim_stock.proofs.dealing.bring.Goals.returns-clause-total
returns-clause-total c =
    let small : IsRate 1000 c.rate_at-rate.result = subst (IsRate 1000) (sym c.rate_at-rate.ensures)
    (rate_at_limits 1000 c.args.income.now c.from.result c.requires.income) in
    let all = ap total c.earn.ensures in
    omega (arith, all, earned_total c.args.row.now.owner c.rate_at-rate.result c.args.stocks.now, small.food, small.metal)

pub earn-requires-clause-few : Rattle.sim_stock.proofs.dealing.bring.Goals.earn-requires-clause-few
earn-requires-clause-few c = subst (IsRate 1000) (sym c.rate_at-rate.ensures) (rate_at_limits 1000 c.args.income.now c.from.result c.requires.income)
