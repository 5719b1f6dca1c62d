-- What a sink counts.
use Rattle.sim_store.specs.{Shelf.raised, declared.fault.Failed.Failed}
use Rattle.std.specs.Prelude.{Err, Ok, Result, ℕ, ◌≡◌}

-- a write that fails is a fault
abbrev pub SinkCounts : Result ℕ Failed → ℕ → ℕ → Type 0
SinkCounts (Ok count) old new = new ≡ old
SinkCounts (Err failed) old new = new ≡ raised 1 old
