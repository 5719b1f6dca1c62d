use Rattle.sim_orders.proofs.Common.{◌≡◌, cond, [], take, flat_map, is_ordered, sent_changes}

abbrev pub invariant-loop-row : Rattle.sim_orders.proofs.ordered.sent.Given.invariant-loop-row
invariant-loop-row l = l.changes ≡ flat_map (λ row. cond (is_ordered l.player l.ids.ids row) (sent_changes l.to row) []) (take l.row-index l.rows)
