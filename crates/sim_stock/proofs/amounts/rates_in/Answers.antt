-- Named rates within the limit make rates within it.
use Rattle.sim_stock.proofs.{Balances.rates_limits, Common.{All, ap, IsRate, length, List, NamedRate, rates_of, subst, sym, ◌∙◌}}

pub returns-clause-limits : Rattle.sim_stock.proofs.amounts.rates_in.Goals.returns-clause-limits
returns-clause-limits c =
    let count = length c.args.templates.now in
    let all : All (λ (n : NamedRate). IsRate c.args.limit n.rate) c.in-Some-2.named.items = rw c.in-Some-2.is at c.in_ok-named.ensures.limits in
    subst (All (IsRate c.args.limit)) (sym (c.in_ok-rates.ensures.value ∙ ap (λ (ns : List NamedRate). rates_of count ns) c.as_slice.ensures.value))
    (rates_limits c.args.limit count c.in-Some-2.named.items all)
