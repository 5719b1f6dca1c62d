-- Nothing is kept, and nothing waits.
use Rattle.sim_held.{proofs.Common.All-nil, proofs.Common.ap, proofs.Common.rules, proofs.Common.subst, proofs.Common.sym, specs.Servers.waiting}
use Rattle.{sim_plain.specs.declared.rules.Rules.Rules, sim_server.specs.Standing.IsSmallServer}

pub invariant_of-result : Rattle.sim_held.proofs.server.HeldServer.with_rules.Goals.invariant_of-result
invariant_of-result c = record {
  count = ap (λ (r : Rules). r.clients) (sym c.in-Ok.ensures.rules);
  keeps = subst IsSmallServer (sym c.in-Ok.ensures.stands) (λ t. tt);
  waits = search (rules, All-nil);
  own = λ d nobody. ap (λ l. waiting l d) c.new-2.ensures.items;
}
