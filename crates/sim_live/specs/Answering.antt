-- What becomes of a session and of a server that answer a line: the facts of each call by name. A clause passes ⟦<dyn System as System>⟧
-- for `sys`.
use Rattle.sim_server.specs.Standing.{IsSmallServer, StandsFor as ServerStandsFor, View, server_of}
use Rattle.sim_session.specs.{Going.GoesOnBy, Going.seen_in, Going.setup_in, Standing.StandsFor, declared.session.Session.Session}
use Rattle.std.specs.Prelude.{IfOk, List, OnOk, Result, length, ℕ, ◌+◌, ◌≡◌, ◌≤◌}
use Rattle.{sim_base.specs.declared.memory.OutOfMemory.OutOfMemory, sim_base.specs.declared.step.Step.Step, sim_plain.specs.Messages.Arrival}
use Rattle.{sim_plain.specs.declared.message.PostOf.PostOf, sim_plain_session.specs.Sessions.session as session_over, sim_server.specs.Standing.Answers}
use Rattle.{sim_system.specs.Meanings.Meaning, sim_system.specs.declared.system.System.Ghosts, sim_wire.specs.Reading.IsSmallDown, std.specs.Prelude.All}

-- of so many there are so many next, and one more at most
pub record Counts {X : Type 0} (made : ℕ) (next : List X → List X) (n : ℕ) : Type 0 where
  pub count : (before : List X) → made ≡ length before → n ≡ length (next before)
  pub few : n ≤ made + 1

-- With memory a session goes on, and stands then for that over the next steps of any over which it stood. However it ends, it keeps what every
-- call does.
pub record FollowsBy {Y X : Type 0} {G : Y → Type 0} {F : X → Type 0} {M : _} {A E : Type 0} (meaning : (i : X) → F i → Meaning)
    (next : List Step → List Step) (result : Result A E) (old new : Session Y X G F M) : Type 0 where
  pub stands : OnOk result ((clients : ℕ) (steps : List Step) → clients ≤ (setup_in old).players
      → StandsFor (setup_in old) (seen_in old) (session_over (setup_in old) clients steps)
      → StandsFor (setup_in old) (seen_in new) (session_over (setup_in old) clients (next steps)))
  pub goes : GoesOnBy meaning result old new

-- however a call of a server ends, it stays small, and its rules are the same
pub record StaysSmall (old new : View) : Type 0 where
  pub small : IsSmallServer (server_of new)
  pub rules : new.rules ≡ old.rules

-- a server that has heard this says what the defined one does, and each message has a frame
pub record Says (heard : Arrival (List ℕ)) (result : Result (List (PostOf (List ℕ))) OutOfMemory) (old new : View) : Type 0 where
  pub answers : (active : ℕ) (h : List (Arrival (List ℕ))) → ServerStandsFor old active h → Answers old active h heard result new
  pub posts : IfOk result (All (λ post. IsSmallDown post.down))
  pub stays : StaysSmall old new

-- ---- the same, as a clause has it

abbrev pub Follows : {Y X : Type 0} {G : Y → Type 0} {F : X → Type 0} {M : _} {A E : Type 0} → ((i : X) → Ghosts (F i)) → (List Step → List Step)
    → Result A E → Session Y X G F M → Session Y X G F M → Type 0
Follows sys next result old new = FollowsBy (λ i v. (sys i).meaning v) next result old new
