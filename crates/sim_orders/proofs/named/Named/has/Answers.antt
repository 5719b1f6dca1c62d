use Rattle.sim_orders.proofs.{Common.ap, Common.IsNonDecreasing, Common.list_any, Common.subst, Common.sym, Common.◌==◌, Common.◌∙◌, Halves.named_by_halves}

pub returns-then-spans : Rattle.sim_orders.proofs.named.Named.has.Goals.returns-then-spans
returns-then-spans c =
    let ids = c.as_slice-ids.result.now in
    let ascending : IsNonDecreasing ids = subst IsNonDecreasing (sym c.as_slice-ids.ensures) c.args.self.now.ascending in
    c.is_ok.ensures.value ∙ named_by_halves ids c.args.id c.binary_search.result ascending c.binary_search.ensures.position ∙
    ap (list_any (λ n. n == c.args.id)) c.as_slice-ids.ensures
