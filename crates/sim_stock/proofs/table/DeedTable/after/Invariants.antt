use Rattle.sim_stock.proofs.Common.{◌≡◌, length, ◌==◌, count_by, kind_of}

abbrev pub invariant-loop-rest : Rattle.sim_stock.proofs.table.DeedTable.after.Given.invariant-loop-rest
invariant-loop-rest g l = record { one_left : count_by (λ handler. handler.kind == l.kind) l.rest ≡ 1; kind : l.kind ≡ kind_of l.deed }

abbrev pub decreases-loop-rest : Rattle.sim_stock.proofs.table.DeedTable.after.Given.decreases-loop-rest
decreases-loop-rest g l = length l.rest
