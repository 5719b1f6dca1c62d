use Rattle.sim_search.proofs.Common.{◌≡◌, ℕ, ◌+◌, ◌*◌, arith, Field, field_of_grid, Flood, Flooded, IfOk-from_err, subst}
use Rattle.sim_search.proofs.labels.flood_row.Goals as goal

flooded_at : (field : Field) (s : Flood) (m n : ℕ) → m ≡ n → Flooded field s m → Flooded field s n
flooded_at field s m n e flooded = subst (Flooded field s) e flooded

pub flood_from-requires-clause-flooded : goal.flood_from-requires-clause-flooded
flood_from-requires-clause-flooded c = flooded_at (field_of_grid c.args.grid.now) c.loop-x.flood (c.args.z * c.args.grid.now.size.width + c.loop-x.x) _
    (omega arith) c.loop-x.invariant

pub loop-x-preserved : goal.loop-x-preserved
loop-x-preserved c = flooded_at (field_of_grid c.args.grid.now) c.flood_from.new.flood _ (c.args.z * c.args.grid.now.size.width + (c.loop-x.x + 1))
    (omega arith) c.in_ok-flood_from.ensures

pub returns-in_err-flood_from : goal.returns-in_err-flood_from
returns-in_err-flood_from c = IfOk-from_err _ _ c.from_residual.ensures.0
