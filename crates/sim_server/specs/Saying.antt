-- What a part of a call does that may be refused memory: it keeps a command, or makes posts of what is said.
use Rattle.std.specs.Prelude.{◌≡◌, ℕ, ◌++◌, ◌∷◌, [], IfOk, IsOk, List, OnErr, OnOk, Result, ⊤}
use Rattle.sim_server.specs.Common.{OutOfMemory, PlayerCommand, PostOf, put}

-- one command more is kept of a turn, or all is as it was
pub record Keeps (result : Result ⊤ OutOfMemory) (turn : ℕ) (order : PlayerCommand) (old new : ℕ → List PlayerCommand) : Type 0 where
  pub ok : OnOk result (new ≡ put turn (old turn ++ order ∷ []) old)
  pub err : OnErr result (new ≡ old)

-- the posts say this, and memory is not refused where there is nothing to say
pub record Says (result : Result (List (PostOf (List ℕ))) OutOfMemory) (said : List (PostOf (List ℕ))) (Nothing : Type 0) : Type 0 where
  pub told : IfOk result (λ posts. posts ≡ said)
  pub quiet : Nothing → IsOk result

-- this is said behind what was said before, and memory is not refused where there is nothing to say
pub record Pushes (result : Result ⊤ OutOfMemory) (said : List (PostOf (List ℕ))) (Nothing : Type 0) (old new : List (PostOf (List ℕ))) : Type 0 where
  pub told : OnOk result (new ≡ old ++ said)
  pub quiet : Nothing → IsOk result
