-- How large a ground is at most.
use Rattle.{sim_plans.specs.Common.Size, std.specs.Prelude.pos, std.specs.Prelude.ℤ, std.specs.Prelude.◌<ℤ◌, std.specs.Prelude.◌≤ℤ◌, std.specs.Prelude.◌≤◌}

-- a coordinate of the largest ground
pub record IsCoordinate (raw : ℤ) : Type 0 where
  pub low : pos 0 ≤ℤ raw
  pub high : raw <ℤ pos 16777216

-- a ground is no larger than the largest
pub record IsGround (size : Size) : Type 0 where
  pub width : size.width ≤ 256
  pub depth : size.depth ≤ 256
