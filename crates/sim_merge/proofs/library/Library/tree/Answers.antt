use Rattle.sim_merge.proofs.{Common.{ap, arith, get_or-map, Holding, is_resolved, length, length-map, map, node_of, sym, ◌<◌, ◌∙◌}, ListLemmas.list_all-get_or}

pub returns-clause-resolved : Rattle.sim_merge.proofs.library.Library.tree.Goals.returns-clause-resolved
returns-clause-resolved c =
    let trees = c.self.inside.trees.items in
    let tree = c.index.result.now in
    let counted : c.args.number < length (map node_of trees) = omega (arith, c.self.invariant.paired, ap (λ (h : Holding). length h.names) c.self.view_is) in
    let within : c.args.number < length trees = omega (arith, length-map trees node_of) in
    ap is_resolved (ap node_of c.index.ensures ∙ sym (get_or-map node_of trees c.args.number tree (node_of tree) within))
    ∙ list_all-get_or is_resolved (map node_of trees) c.args.number (node_of tree) counted c.self.invariant.resolved
