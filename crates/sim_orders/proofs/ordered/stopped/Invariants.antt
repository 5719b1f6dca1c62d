use Rattle.sim_orders.proofs.Common.{◌≡◌, cond, [], take, flat_map, is_ordered, stop_changes}

abbrev pub invariant-loop-row : Rattle.sim_orders.proofs.ordered.stopped.Given.invariant-loop-row
invariant-loop-row l = l.changes ≡ flat_map (λ row. cond (is_ordered l.player l.ids.ids row) (stop_changes row) []) (take l.row-index l.rows)
