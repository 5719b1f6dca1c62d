-- Pairs within the limits make stocks within the limits.
use Rattle.sim_stock.proofs.{Balances.opening_start, Common.All, Common.IsRate, Common.IsStart, Common.ap, Common.opening, Common.subst, Common.sym, Common.◌∙◌}

pub returns-clause-limits : Rattle.sim_stock.proofs.amounts.start_in.Goals.returns-clause-limits
returns-clause-limits c =
    let all : All (IsRate 1000000000) c.in-Some-2.pairs.items = rw c.in-Some-2.is at c.in_ok-pairs.ensures.limits in
    subst IsStart (sym (c.opening.ensures ∙ ap opening c.as_slice.ensures.value)) (opening_start c.in-Some-2.pairs.items all)
