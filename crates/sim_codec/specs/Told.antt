-- What a state needs so that it can be told.
use Rattle.{sim_codec.specs.Common.HasShortWay, sim_codec.specs.Common.Row}
use Rattle.std.specs.Prelude.{◌^◌, ◌<◌, All, length, List}

-- no way of these rows is too long to be told, and the rows can be counted
pub record CanBeTold (rows : List Row) : Type 0 where
  pub short : All HasShortWay rows
  pub few : length rows < 2 ^ 32
