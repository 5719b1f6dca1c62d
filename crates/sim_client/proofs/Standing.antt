-- A client that is sound, before and after a step.
use Rattle.{sim_base.specs.declared.memory.OutOfMemory.OutOfMemory, sim_board.specs.declared.board.Board.Board}
use Rattle.sim_client.proofs.Common.{[], if◌then◌else◌, ◌&&◌, ◌≡◌, Act, All, All-nil, AreByPlayers, Bool, Command, false, IsOrderOf, IsReady, Known, known_in}
use Rattle.sim_client.proofs.Common.{Life, List, nat_lt, None, On, OnOk, Option, orders, PlayerCommand, refl, Setup, Some, Stage, State, subst, sym, true, ℕ}
use Rattle.sim_client.specs.{ClientWords.Answers, StageWords.IsPlayingBy, StageWords.IsSoundAt, StageWords.life_at, StageWords.player_at, declared.did.Did.Did}
use Rattle.{sim_client.specs.declared.stage.Seat.Seat, sim_system.specs.Meanings.Meaning, std.proofs.Common.Err, std.proofs.Common.Ok, std.proofs.Common.Result}
use Rattle.sim_client.specs.declared.stage.Stage.TheVariants as stage

-- what holds anyway holds where a result is Ok
pub anyway : {V E : Type 0} {P : Type 0} (r : Result V E) → P → OnOk r P
anyway (Ok v) p = p
anyway (Err e) p = tt

-- players gave no command
pub none_by_players : (setup : Setup) (known : Known) → known_in known ≡ (λ t. []) → AreByPlayers setup known
none_by_players setup known is = λ t. subst (λ (f : ℕ → List PlayerCommand). All (IsOrderOf setup) (f t)) (sym is) (All-nil (IsOrderOf setup))

module _ {X : Type 0} {F : X → Type 0} (setup : Setup) (m : (i : X) → F i → Meaning) where
  -- the board is of the match
  pub of_match : (at : Stage) (boards : Option (Board X F)) (board : Board X F) → boards ≡ Some board → IsReady setup at boards m → board.setup.now ≡ setup
  of_match at boards board is ready = by at (subst (λ (b : Option (Board X F)). IsReady setup at b m) is ready)
    where
      by : (at : Stage) → IsReady setup at (Some board) m → board.setup.now ≡ setup
      by stage.Off h = h.same
      by stage.Joining h = h.same
      by (stage.On seat) h = h.same

  -- one that is on is playing
  pub playing_of : (at : Stage) (boards : Option (Board X F)) (seat : Seat) (board : Board X F) → at ≡ stage.On seat → boards ≡ Some board
      → IsReady setup at boards m → IsPlayingBy setup board seat m
  playing_of at boards seat board on is ready = subst (λ (p : Stage × Option (Board X F)). IsReady setup p.0 p.1 m) (λ i. (on i, is i)) ready

  -- a seat that knows the same commands may be taken for another
  pub seated : (number : ℕ) (at : Stage) (board : Option (Board X F)) (seat new : Seat) → at ≡ stage.On seat → new.known ≡ seat.known
      → IsSoundAt setup number at board m →
      IsSoundAt setup number (stage.On new) board m
  seated number at board seat new on known sound =
      record { limits = sound.limits; number_is = sound.number_is; ready = by board (subst (λ (s : Stage). IsReady setup s board m) on sound.ready) }
    where
      by : (board : Option (Board X F)) → IsReady setup (stage.On seat) board m → IsReady setup (stage.On new) board m
      by None h = h
      by (Some b) h = record { same = h.same; whole = h.whole; valid = h.valid; known = subst (AreByPlayers setup) (sym known) h.known }

  -- what is answered of a client that is on, by its seat and its board
  pub answered : (step : Life → Option Act) (result : Result Did OutOfMemory) (at : Stage) (boards : Option (Board X F)) (seat new : Seat) (board : Board X F)
      (state : State) →
      at ≡ stage.On seat → boards ≡ Some board → state ≡ board.state → Answers (step (On (player_at state seat))) (On (player_at state seat)) result
      (On (player_at state new)) →
      Answers (step (life_at at boards)) (life_at at boards) result (life_at (stage.On new) boards)
  answered step result at boards seat new board state on is same h =
      let here = subst (λ (s : State). Answers (step (On (player_at s seat))) (On (player_at s seat)) result (On (player_at s new))) same h in
      subst (λ (p : Stage × Option (Board X F)). Answers (step (life_at p.0 p.1)) (life_at p.0 p.1) result (life_at (stage.On new) p.1))
      (λ i. (sym on i, sym is i)) here

  -- a command that is not given, where a client is on
  pub unordered : (command : Command) (at : Stage) (boards : Option (Board X F)) (seat : Seat) → at ≡ stage.On seat → IsReady setup at boards m
      → orders setup command (life_at at boards) ≡ None →
      (nat_lt seat.done setup.turns && nat_lt seat.orders 64) ≡ false
  unordered command at boards seat on ready none =
      by boards (subst (λ (s : Stage). IsReady setup s boards m) on ready) (subst (λ (s : Stage). orders setup command (life_at s boards) ≡ None) on none)
    where
      test : (b : Bool) (act : Act) → (if b then Some act else None) ≡ None → b ≡ false
      test true act h = absurd (cc)
      test false act h = refl

      by : (boards : Option (Board X F)) → IsReady setup (stage.On seat) boards m → orders setup command (life_at (stage.On seat) boards) ≡ None
          → (nat_lt seat.done setup.turns && nat_lt seat.orders 64) ≡ false
      by None h none = absurd h
      by (Some b) h none = test (nat_lt seat.done setup.turns && nat_lt seat.orders 64) _ none
