use Rattle.sim_orders.proofs.Common.{◌≡◌, length, ◌==◌, count_by}

abbrev pub invariant-loop-rest : Rattle.sim_orders.proofs.table.OrderTable.handler_of.Given.invariant-loop-rest
invariant-loop-rest g l = count_by (λ handler. handler.kind == l.kind) l.rest ≡ 1

abbrev pub decreases-loop-rest : Rattle.sim_orders.proofs.table.OrderTable.handler_of.Given.decreases-loop-rest
decreases-loop-rest g l = length l.rest
