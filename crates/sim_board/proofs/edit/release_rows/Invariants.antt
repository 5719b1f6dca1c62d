use Rattle.sim_board.proofs.Common.{◌≡◌, map, take, id_of, rows_released}

-- the first of the rows are released, and the ids are as they were
abbrev pub invariant-loop-id : Rattle.sim_board.proofs.edit.release_rows.Given.invariant-loop-id
invariant-loop-id l = (l.rows.items ≡ rows_released (take l.id-index l.ids) l.initial.rows.items) × (map id_of l.rows.items ≡ map id_of l.initial.rows.items)
