use Rattle.sim_orders.proofs.Common.{◌≡◌, cond, [], take, flat_map, is_ordered, set_on_changes}

abbrev pub invariant-loop-row : Rattle.sim_orders.proofs.ordered.set_on.Given.invariant-loop-row
invariant-loop-row l = l.changes ≡ flat_map (λ row. cond (is_ordered l.player l.ids.ids row) (set_on_changes l.target row) []) (take l.row-index l.rows)
