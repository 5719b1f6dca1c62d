-- There are two pipes for each number, and nothing is kept.
use Rattle.sim_pipes.proofs.Common.{suc, ap, IsSmallServer, Rules, subst, sym, ◌∙◌}

pub invariant_of-result : Rattle.sim_pipes.proofs.exchange.Exchange.new.Goals.invariant_of-result
invariant_of-result c =
    let clients = ap (λ (r : Rules). suc r.clients) (sym c.in_ok-new.ensures.rules) in
    record {
      ups = c.in_ok-pipes.ensures.count ∙ clients;
      downs = c.in_ok-pipes-2.ensures.count ∙ clients;
      small = subst IsSmallServer (sym c.in_ok-new.ensures.stands) (λ t. tt);
    }
