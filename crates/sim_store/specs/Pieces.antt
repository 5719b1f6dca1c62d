-- What a write takes of a piece, be it to a shelf or to a sink, and what a read moves to a buffer.
use Rattle.std.specs.Prelude.{Err, IfOk, length, List, Ok, Option, Result, ℕ, ◌<◌, ◌≡◌, ◌≤◌}
use Rattle.{sim_store.specs.declared.fault.Failed.Failed, std.specs.Io.KnownBytes.ReadConsumes, std.specs.Io.KnownBytes.WriteAppends, std.specs.Io.ReadsAtMost}

-- a write takes no more than the piece, and something of a piece that is not empty
abbrev pub TakesSome : Result ℕ Failed → List ℕ → Type 0
TakesSome (Ok count) piece = (count ≤ length piece) × (0 < length piece → 0 < count)
TakesSome (Err failed) piece = Unit {0}

-- a write takes some of the piece, and that is added behind what was told, where it is told
pub record Adds (result : Result ℕ Failed) (piece : List ℕ) (old new : Option (List ℕ)) : Type 0 where
  pub takes : TakesSome result piece
  pub added : WriteAppends old new result piece

-- a write takes all of the piece, or fails, and what it takes is added in the same way
pub record AddsWhole (result : Result ℕ Failed) (piece : List ℕ) (old new : Option (List ℕ)) : Type 0 where
  pub whole : IfOk result (λ count. count ≡ length piece)
  pub adds : Adds result piece old new

-- a read moves no more than the buffer takes, and what it moves is the beginning of what was left, where that is told
pub record Moves (result : Result ℕ Failed) (into : List ℕ) (old new : Option (List ℕ)) : Type 0 where
  pub bound : ReadsAtMost result into
  pub bytes : ReadConsumes old new result into
