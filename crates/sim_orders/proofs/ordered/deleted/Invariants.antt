use Rattle.sim_orders.proofs.Common.{◌≡◌, map, take, filter, id_of, is_ordered, Remove}

abbrev pub invariant-loop-row : Rattle.sim_orders.proofs.ordered.deleted.Given.invariant-loop-row
invariant-loop-row l = l.changes ≡ map (λ id. Remove id) (map id_of (filter (is_ordered l.player l.ids.ids) (take l.row-index l.rows)))
