-- A cell that a spot names is small enough for its middle to be a point.
use Rattle.sim_orders.proofs.Common.{◌≡◌, ◌<◌, Some, None, Option, option_and_then, arith, Cell, IsSetup, Row, Setup, spot, spot_on_ground, State}

pub spot_small : (setup : Setup) (state : State) (o : Option Row) (c : Cell) → IsSetup setup → option_and_then (λ (row : Row). spot setup state row.at) o ≡
    Some c → (c.x < 256) × (c.z < 256)
spot_small setup state None c limits e = absurd (cc)
spot_small setup state (Some row) c limits e =
    let on = spot_on_ground setup state row.at c e in
    (omega (arith, on.east, limits.land.width), omega (arith, on.north, limits.land.depth))
