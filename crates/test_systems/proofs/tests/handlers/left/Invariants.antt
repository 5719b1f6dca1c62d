use Rattle.std.{proofs.Common.◌≡◌, proofs.Common.cond, proofs.Common.[], proofs.Common.◌∷◌, proofs.Common.take, proofs.Common.flat_map, specs.Prelude.◌==◌}
use Rattle.sim_base.specs.declared.{change.Change.TheVariants.Owner, state.Row.Row}

abbrev pub invariant-loop-row : Rattle.test_systems.proofs.tests.handlers.left.Given.invariant-loop-row
invariant-loop-row l = l.changes.items ≡ flat_map (λ (row : Row). cond (row.owner == l.player) (Owner row.id 0 ∷ []) []) (take l.row-index l.rows)
