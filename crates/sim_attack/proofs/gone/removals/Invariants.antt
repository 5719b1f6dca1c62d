use Rattle.sim_base.specs.{Rows.id_of, Turn.is_spent, declared.change.Change.TheVariants.Remove, declared.state.Row.Row}
use Rattle.std.{proofs.Common.map, proofs.Common.take, proofs.Common.◌≡◌, specs.Prelude.filter}

abbrev pub invariant-loop-row : Rattle.sim_attack.proofs.gone.removals.Given.invariant-loop-row
invariant-loop-row l = l.changes ≡ map (λ id. Remove id) (map id_of (filter (λ (row : Row). is_spent row.health) (take l.row-index l.state.rows)))
