use Rattle.sim_orders.proofs.Common.{◌≡◌, cond, [], ◌∷◌, take, ◌==◌, flat_map, Owner, Row}

abbrev pub invariant-loop-row : Rattle.sim_orders.proofs.ordered.resigned.Given.invariant-loop-row
invariant-loop-row l = l.changes ≡ flat_map (λ (row : Row). cond (row.owner == l.player) (Owner row.id 0 ∷ []) []) (take l.row-index l.rows)
