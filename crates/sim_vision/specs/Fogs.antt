-- What a fog is for.
use Rattle.std.specs.Prelude.{◌≡◌, ℕ, List}
use Rattle.sim_vision.specs.{Watching.Extent, Watching.IsTurned, Watching.IsTurnedAt, declared.crossing.Crossing.Crossing, declared.fog.Fog.Fog}

-- the ground of a fog and its players
abbrev pub extent_of : Fog → Extent
extent_of fog = record { size = record { width = fog.width; depth = fog.depth }; players = fog.players }

-- the ground and the players are the same
abbrev pub IsSameExtent : Fog → Fog → Type 0
IsSameExtent old new = extent_of new ≡ extent_of old

-- a crossing is told in row z of a fog, whose ground and players stay
pub record TurnsAt (reaches : List ℕ) (crossing : Crossing) (z : ℕ) (old new : Fog) : Type 0 where
  pub extent : IsSameExtent old new
  pub turned : IsTurnedAt (extent_of old) reaches crossing z old.counts.items new.counts.items old.flags.items new.flags.items

-- a crossing is told in all rows
pub record Turns (reaches : List ℕ) (crossing : Crossing) (old new : Fog) : Type 0 where
  pub extent : IsSameExtent old new
  pub turned : IsTurned (extent_of old) reaches crossing old.counts.items new.counts.items old.flags.items new.flags.items
